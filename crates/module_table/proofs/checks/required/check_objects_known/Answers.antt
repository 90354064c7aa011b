use Rattle.std.proofs.Common.{◌∙◌, [], ap, map, sym, refl, slice_get, take, Some, List, Vec, ℕ, take_all}
use Rattle.module_table.specs.Prelude.{Global, option_map, provisions, names_of, Reports, ModuleUnknown, Name}
use Rattle.module_table.proofs.IndexRows.{are_indexes}
use Rattle.module_table.proofs.Found.{none_named, for_boxed, in_row, reports_unknown}
use Rattle.module_table.proofs.Lists.{finds, pushes_next, same_reads, read_at}
use Rattle.module_table.proofs.checks.required.check_objects_known.Goals as goal
use Rattle.ninja_text.proofs.ForCallers.{in_take, take_next, from_map}
use Rattle.module_table.proofs.Words.{name_of, items_of, required_by, names_wanted}

pub returns-in_default-clause-fault : goal.returns-in_default-clause-fault
returns-in_default-clause-fault c =
    let t = c.args.modules.now in
    let keys = (names_of (provisions c.args.modules.now)) in
    let o = c.loop-object.object in
    let rule = c.index-objects-object.result in
    let here = read_at c.objects-objects.result.now o c.loop-object-test.true c.index-objects-object.is in
    let i = c.loop-required.required-index in
    let name = c.required-item.result in
    let list = c.deref-required-items.ensures.value ∙ ap required_by c.rule.view_is in
    let at = same_reads i (sym list) ∙ read_at c.deref-required-items.result.now i c.loop-required-test.true c.required-item.is in
    for_boxed (λ fault. (kept : List Name) → Reports 5 t kept fault) _ _
    (λ kept. reports_unknown items_of t kept c.loop-object.indexes.items o rule _ (same_reads o (sym c.objects-objects.ensures) ∙ here)
    (c.loop-object.invariant ∙ ap (λ os. map names_wanted (take o os)) c.objects-objects.ensures) (
      i,
      name,
      record {
        here = at;
        holds = λ k at. let p = from_map name_of (provisions t) k name at in none_named (provisions t) name
            (sym c.find.ensures.module ∙ ap (option_map _) c.in_default.is) k p.0 (p.1, p.2);
        before = λ k y lt at_k absent. let r =
            in_row keys c.loop-required.row.items (take i c.deref-required-items.result.now) k c.loop-required.invariant
            (in_take i c.deref-required-items.result.now k y lt (same_reads k list ∙ at_k)) in absent r.0 r.2;
      },
      ap (λ n. ModuleUnknown n o) c.in_ok-name.ensures,
    )) c.failure_of.ensures

pub loop-required-preserved : goal.loop-required-preserved
loop-required-preserved c =
    let required = c.deref-required-items.result.now in
    let i = c.loop-required.required-index in
    let name = c.required-item.result in
    pushes_next (slice_get (names_of (provisions c.args.modules.now))) Some (take i required) name
    [] _ _ (take_next required i name (read_at required i c.loop-required-test.true c.required-item.is)) c.loop-required.invariant
    c.in_ok-push.ensures.items (finds (names_of (provisions c.args.modules.now)) name (Some c.in-Some.index) c.in-Some.ensures.index)

pub returns-clause-ok : goal.returns-clause-ok
returns-clause-ok c =
    are_indexes c.args.modules.now (names_of (provisions c.args.modules.now)) c.loop-object.indexes.items refl
    (c.loop-object.invariant ∙
    ap (map names_wanted) (take_all c.loop-object.object c.objects-objects.result.now c.loop-object-test.false ∙ c.objects-objects.ensures))

pub loop-object-preserved : goal.loop-object-preserved
loop-object-preserved c =
    let objects = c.objects-objects.result.now in
    let o = c.loop-object.object in
    let rule = c.index-objects-object.result in
    pushes_next (λ (row : Vec ℕ Global). map (slice_get (names_of (provisions c.args.modules.now))) row.items) names_wanted (take o objects) rule
    [] _ _ (take_next objects o rule (read_at objects o c.loop-object-test.true c.index-objects-object.is)) c.loop-object.invariant
    c.in_ok-push-2.ensures.items
    (c.loop-required.invariant ∙
    ap (map Some) (take_all c.loop-required.required-index c.deref-required-items.result.now c.loop-required-test.false ∙
    (c.deref-required-items.ensures.value ∙ ap required_by c.rule.view_is)))
