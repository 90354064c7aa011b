use Rattle.std.proofs.Common.{◌∙◌, ap, arith, get_or, length, subst, sym, take, Some, take_all, List, slice_get}
use Rattle.std.proofs.lemmas.Option.{slice_get-get_or}
use Rattle.module_table.specs.Prelude.{Name, rows, provisions, names_of, provision_of, RequiresPublic, AcceptsAll, Reports, ModulePrivate, Object}
use Rattle.module_table.proofs.IndexRows.{rule_of, name_of_index, index_within, length_mapped}
use Rattle.module_table.proofs.Found.{IsPublicAt, row_public, for_fault}
use Rattle.module_table.proofs.Passing.{private_by_infos, reports_private_object}
use Rattle.ninja_text.proofs.ForCallers.{to_map, map_take}
use Rattle.module_table.proofs.Words.{At, name_of, privacy_of, items_of}
use Rattle.module_table.proofs.Lists.{accepts_next, same_reads, one_there, one_value, read_at}
use Rattle.module_table.proofs.checks.required.check_objects_allowed.Goals as goal
use Rattle.module_table.proofs.checks.required.check_objects_allowed.Goals.{After-module_at-module}

pub module_at-module-requires : goal.module_at-module-requires
module_at-module-requires c =
    let row = c.index-required-object.result in
    let i = c.loop-index.index-index in
    let indexes = c.deref-index-items.result.now in
    let inside = index_within c.args.modules.now c.args.required.now c.requires c.loop-object.object row
    (read_at c.args.required.now c.loop-object.object c.loop-object-test.true c.index-required-object.is) i (get_or indexes i 0)
    (same_reads i (sym c.deref-index-items.ensures.value) ∙ slice_get-get_or indexes i 0 c.loop-index-test.true) in
    omega (arith, inside, length_mapped provision_of c.provided-provided.result.now, ap length c.provided-provided.ensures.all.modules)

-- the module of the index
module_here : (c : After-module_at-module) → At (provisions c.args.modules.now) (get_or c.deref-index-items.result.now c.loop-index.index-index 0)
    (provision_of c.module_at-module.result.now)
module_here c =
    let index = get_or c.deref-index-items.result.now c.loop-index.index-index 0 in
    same_reads index (sym c.provided-provided.ensures.all.modules) ∙ to_map provision_of c.provided-provided.result.now index _ c.module_at-module.ensures

pub requires_private-requires : goal.requires_private-requires
requires_private-requires c =
    private_by_infos c.args.modules.now _ _ (module_here (goal.at.requires_private-requires c).After-module_at-module) c.if-module.true

pub returns-then-module-clause-fault : goal.returns-then-module-clause-fault
returns-then-module-clause-fault c =
    let t = c.args.modules.now in
    let ps = provisions t in
    let o = c.loop-object.object in
    let row = c.index-required-object.result in
    let i = c.loop-index.index-index in
    let indexes = c.deref-index-items.result.now in
    let list = c.deref-index-items.ensures.value in
    let index = get_or indexes i 0 in
    let here = module_here (goal.at.returns-then-module-clause-fault c).After-module_at-module in
    let rule = rule_of t (rows c.args.required.now) c.requires o row.items
    (to_map items_of c.args.required.now o row (read_at c.args.required.now o c.loop-object-test.true c.index-required-object.is)) in
    let name = name_of_index (names_of ps) row.items rule.0.required rule.2 i
    (same_reads i (sym list) ∙ slice_get-get_or indexes i 0 c.loop-index-test.true) in
    let same = one_value (sym name.2 ∙ to_map name_of ps index _ here) in
    let before = row_public ps c.provided-provided.ensures.differ (take i row.items) (take i rule.0.required)
    (map_take (slice_get (names_of ps)) i row.items ∙ ap (take i) rule.2 ∙ sym (map_take Some i rule.0.required))
    (subst (λ xs. AcceptsAll (IsPublicAt ps) (take i xs)) list c.loop-index.invariant) in
    for_fault {Q = λ fault. (kept : List Name) → Reports 9 t kept fault.value} _
    (λ fault is kept. reports_private_object t kept o i rule.1 c.loop-object.invariant before name.1 (index, _, (here, sym same), c.if-module.true, is.1)
    (is.2 ∙ ap (λ n. ModulePrivate n is.0 (Object o)) (sym same))) c.requires_private.ensures

pub loop-index-preserved : goal.loop-index-preserved
loop-index-preserved c =
    let indexes = c.deref-index-items.result.now in
    let i = c.loop-index.index-index in
    let here = module_here (goal.at.loop-index-preserved c).After-module_at-module in
    accepts_next (IsPublicAt (provisions c.args.modules.now)) indexes i (slice_get-get_or indexes i 0 c.loop-index-test.true) c.loop-index.invariant
    (λ p at. ap privacy_of (one_there at here) ∙ c.if-module.false)

pub loop-object-preserved : goal.loop-object-preserved
loop-object-preserved c =
    let t = c.args.modules.now in
    let ps = provisions t in
    let o = c.loop-object.object in
    let row = c.index-required-object.result in
    let rule = rule_of t (rows c.args.required.now) c.requires o row.items
    (to_map items_of c.args.required.now o row (read_at c.args.required.now o c.loop-object-test.true c.index-required-object.is)) in
    let public = subst (AcceptsAll (IsPublicAt ps))
    (take_all c.loop-index.index-index c.deref-index-items.result.now c.loop-index-test.false ∙ c.deref-index-items.ensures.value) c.loop-index.invariant in
    accepts_next (RequiresPublic ps) t.objects o rule.1 c.loop-object.invariant
    (row_public ps c.provided-provided.ensures.differ row.items rule.0.required rule.2 public)
