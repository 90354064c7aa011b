use Rattle.std.proofs.Common.{◌≡◌, ◌≤◌, ◌++◌, List, Some, length, flat_map, refl, ap, subst, sym, ◌∙◌, slice_get, take_all}
use Rattle.std.proofs.lemmas.List.{length-map}
use Rattle.std.proofs.lemmas.Option.{slice_get_read}
use Rattle.collate_core.specs.Prelude.{InfoValue, ModuleValue, required_of, tasks_of, modules_of}
use Rattle.collate_core.proofs.Lists.{modules_same}
use Rattle.collate_core.proofs.Documents.{more_modules}
use Rattle.collate_core.proofs.texts.lent_info.Goals as goal

pub loop-index-preserved : goal.loop-index-preserved
loop-index-preserved c =
    let t = c.args.table.now in
    let kept = c.args.kept.now in
    let rule = c.rule-item.result in
    let here : slice_get t.objects c.loop-index.index ≡ Some rule =
    rw (← c.objects-rule-items.ensures.objects) (slice_get_read _ _ _ _ refl c.loop-index-test.true c.rule-item.is) in
    c.in_ok-add_modules.ensures
    ∙ ap (λ ms. c.loop-index.modules.items ++ ms)
    (modules_same c.in_ok-private_names.private_names.names.keys kept c.in_ok-private_names.ensures.names c.required.result.now rule.provided)
    ∙ more_modules kept t c.loop-index.index here (c.required.ensures rule here)
    c.loop-index.invariant

pub returns : goal.returns
returns c =
    let t = c.args.table.now in
    let many =
    subst (λ n. n ≤ c.loop-index.index) (ap length c.objects-rule-items.ensures.objects ∙ sym (length-map t.objects (λ rule. (rule, required_of t rule))))
    c.loop-index-test.false in
    ap (λ (modules : List ModuleValue). let i : InfoValue = record { target = c.args.name.now; modules = modules } in i)
    (c.loop-index.invariant ∙ ap (flat_map (modules_of c.args.kept.now)) (take_all c.loop-index.index (tasks_of t) many))
