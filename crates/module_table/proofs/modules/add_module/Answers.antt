use Rattle.std.proofs.Common.{◌≡◌, ◌∙◌, ◌++◌, ap, map, subst, sym, take, take_all}
use Rattle.module_table.specs.Prelude.{option_map, ModuleValue, InfoRequirement, provisions, names_of, index_in, indexes_in, looked_up, lookups_of}
use Rattle.module_table.specs.inner.Found.{lookup_of}
use Rattle.module_table.proofs.IndexRows.{takes_some, takes_none}
use Rattle.module_table.proofs.Lists.{pushes_next, same_reads, read_at}
use Rattle.module_table.proofs.modules.add_module.Goals as goal
use Rattle.module_table.proofs.modules.add_module.Goals.{in-Some+in_ok-push-2, in_default, After-loop-pair}
use Rattle.ninja_text.proofs.ForCallers.{take_next}
use Rattle.module_table.proofs.Words.{Pair}

pub loop-pair-preserved : goal.loop-pair-preserved
loop-pair-preserved c =
    let ps = provisions c.args.modules.now in
    let i = c.loop-pair.pair-index in
    let entry = c.args.entry.now in
    let pair = c.pair-item.result in
    let h = λ (pair : Pair). index_in (names_of ps) pair.0 in
    let list = c.deref-pair-items.ensures.value ∙ ap (λ (m : ModuleValue). m.required) c.entry.view_is in
    let at = same_reads i (sym list) ∙ read_at c.deref-pair-items.result.now i c.loop-pair-test.true c.pair-item.is in
    record {
      required =
          pushes_next looked_up (lookup_of ps c.args.info c.args.target.now entry.name) (take i entry.required) pair _ _ _
          (take_next entry.required i pair at) c.loop-pair.invariant.required c.in_ok-push.ensures.items
          (ap (λ m. (
            let r : InfoRequirement =
                record { info = c.args.info; target = c.args.target.now; module_name = c.entry.inside.name; name = pair.0; file = pair.1 } in r,
            m,
          ))
          c.find-module.ensures.module
          ∙ ap (λ (m : ModuleValue). lookup_of ps c.args.info c.args.target.now m.name pair) c.entry.view_is);
      row =
          elim c.match-module.branch [
            | in-Some+in_ok-push-2 w ↦
                ap (λ v. v.items) w.row-is
                ∙ takes_some h entry.required i at c.loop-pair.invariant.row
                (sym c.find-module.ensures.index ∙ ap (option_map _) w.in-Some.is) w.in_ok-push-2.ensures.items
            | in_default w ↦ ap (λ v. v.items) w.row-is ∙
                takes_none h entry.required i at c.loop-pair.invariant.row
                (sym c.find-module.ensures.index ∙ ap (option_map _) w.in_default.is)
          ];
    }

-- the loop has gone through all pairs
whole : (c : After-loop-pair) → take c.loop-pair.pair-index c.args.entry.now.required ≡ c.args.entry.now.required
whole c = subst (λ pairs. take c.loop-pair.pair-index pairs ≡ pairs)
    (c.deref-pair-items.ensures.value ∙ ap (λ (m : ModuleValue). m.required) c.entry.view_is)
    (take_all c.loop-pair.pair-index c.deref-pair-items.result.now c.loop-pair-test.false)

pub returns-clause-required : goal.returns-clause-required
returns-clause-required c =
    c.loop-pair.invariant.required ∙
    ap (λ pairs. map looked_up c.args.all.now.items ++ lookups_of (provisions c.args.modules.now) c.args.info c.args.target.now
    (record c.args.entry.now { required = pairs })) (whole (goal.at.returns-clause-required c).After-loop-pair)

pub returns-clause-row : goal.returns-clause-row
returns-clause-row c =
    c.loop-pair.invariant.row ∙ ap (indexes_in (names_of (provisions c.args.modules.now))) (whole (goal.at.returns-clause-row c).After-loop-pair)
