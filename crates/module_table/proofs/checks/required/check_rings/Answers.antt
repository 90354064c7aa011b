use Rattle.std.proofs.Common.{rules, tests, Ok, ◌≡◌, ◌∙◌, ap, length, map, refl, subst, sym, List}
use Rattle.module_table.specs.Prelude.{filter_map, AllocError, NeedsAreNodes, rows, IsSortingOf, DependsOn, provisions, maker_at, provision_of, Reports, Name}
use Rattle.std.proofs.lemmas.List.{map-append}
use Rattle.std.proofs.lemmas.Iterator.{items_from_collect, YieldsList-from_slice}
use Rattle.std.proofs.lemmas.Iterator.Consumers.{YieldsList-at, YieldsList-from_filter_map}
use Rattle.module_table.proofs.IndexRows.{numbered, map_take_all, sorting_of, are_nodes}
use Rattle.module_table.proofs.Lists.{maps_next, read_at}
use Rattle.module_table.proofs.Found.{for_boxed}
use Rattle.module_table.proofs.checks.required.check_rings.Goals as goal
use Rattle.module_table.proofs.checks.required.check_rings.Goals.{After-loop-row}
use Rattle.ninja_text.proofs.ForCallers.{to_map}
use Rattle.module_table.proofs.Words.{items_of}

pub loop-row-preserved : goal.loop-row-preserved
loop-row-preserved c =
    let required = c.args.required.now in
    let i = c.loop-row.row-index in
    let row = c.row-item.result in
    let at = to_map items_of required i row (read_at required i c.loop-row-test.true c.row-item.is) in
    let made = items_from_collect {E = AllocError} (Ok c.in_ok-collect.field-0) c.in_ok-collect.ensures.ran
    (YieldsList-from_filter_map _ (maker_at (map provision_of c.provided-provided.result.now))
    (YieldsList-at c.filter_map-objects.ensures.source (YieldsList-from_slice row.items (c.iter.ensures.rest ∙ c.deref.ensures.value)))
    c.filter_map-objects.ensures.closure (λ x r q k. search (rules, tests))) in
    maps_next (filter_map (maker_at (map provision_of c.provided-provided.result.now))) (rows required) i at c.loop-row.invariant
    (ap rows c.in_ok-push.ensures.items ∙ map-append items_of c.loop-row.needs.items _) made

-- what each object needs
made : (c : After-loop-row) → rows c.loop-row.needs.items ≡ map (filter_map (maker_at (provisions c.args.modules.now))) (rows c.args.required.now)
made c =
    let required = c.args.required.now in
    c.loop-row.invariant ∙
    ap (map (filter_map (maker_at (map provision_of c.provided-provided.result.now))))
    (map_take_all items_of required c.loop-row.row-index c.loop-row-test.false) ∙
    ap (λ ps. map (filter_map (maker_at ps)) (rows required)) c.provided-provided.ensures.all.modules

pub new-requires : goal.new-requires
new-requires c =
    let t = c.args.modules.now in
    let required = rows c.args.required.now in
    subst NeedsAreNodes (sym (made (goal.at.new-requires c).After-loop-row))
    (are_nodes t (provisions t) required (numbered t required c.provided-provided.ensures.differ c.requires))

pub returns-in-Order-clause-ok : goal.returns-in-Order-clause-ok
returns-in-Order-clause-ok c =
    let t = c.args.modules.now in
    let required = rows c.args.required.now in
    let sorted = subst (IsSortingOf (length t.objects) (DependsOn t)) c.in-Order.is
    (sorting_of t (provisions t) required (numbered t required c.provided-provided.ensures.differ c.requires) c.new.result _
    (c.new.ensures ∙ made (goal.at.returns-in-Order-clause-ok c).After-loop-row) c.in_ok-order.ensures) in
    sorted.0

pub returns-clause-fault : goal.returns-clause-fault
returns-clause-fault c =
    let t = c.args.modules.now in
    let required = rows c.args.required.now in
    let sorted = subst (IsSortingOf (length t.objects) (DependsOn t)) c.in-Cycle.is
    (sorting_of t (provisions t) required (numbered t required c.provided-provided.ensures.differ c.requires) c.new.result _
    (c.new.ensures ∙ made (goal.at.returns-clause-fault c).After-loop-row) c.in_ok-order.ensures) in
    for_boxed (λ fault. (kept : List Name) → Reports 8 t kept fault) _ _
    (λ kept. record { present = sorted.1; coded = refl })
    c.failure_of.ensures
