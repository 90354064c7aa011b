use Rattle.std.proofs.Common.{◌∙◌, ◌++◌, ap, map, sym, take, [], ℕ, take_all}
use Rattle.module_table.specs.Prelude.{flat_map, enumerate_from, InfoValue, ModuleValue, rows, provisions, names_of, indexes_in, info_rows, looked_up, lookups_of}
use Rattle.module_table.proofs.Places.{lookups}
use Rattle.module_table.proofs.Lists.{pushes_next, gathers_more, gathers_next, read_at}
use Rattle.module_table.proofs.modules.all_required.Goals as goal
use Rattle.ninja_text.proofs.ForCallers.{take_next}
use Rattle.module_table.proofs.Words.{items_of}

pub loop-entry-preserved : goal.loop-entry-preserved
loop-entry-preserved c =
    let ps = provisions c.args.modules.now in
    let i = c.loop-entry.entry-index in
    let modules = c.deref-entry-items.result.now in
    let entry = c.entry-item.result in
    let at = read_at modules i c.loop-entry-test.true c.entry-item.is in
    record {
      required = gathers_more (lookups_of ps c.loop-info.info c.value.inside.target) modules i _ at c.loop-entry.invariant.required
          c.in_ok-row.ensures.required;
      needs = pushes_next items_of (λ (m : ModuleValue). indexes_in (names_of ps) m.required) (take i modules) entry _ _ _
          (take_next modules i entry at) c.loop-entry.invariant.needs c.in_ok-push.ensures.items c.in_ok-row.ensures.row;
    }

pub loop-info-preserved : goal.loop-info-preserved
loop-info-preserved c =
    let ps = provisions c.args.modules.now in
    let infos = c.infos-infos.result.now in
    let i = c.loop-info.info in
    let value = c.index-infos-info.result in
    let at = read_at infos i c.loop-info-test.true c.index-infos-info.is in
    let whole = take_all c.loop-entry.entry-index c.deref-entry-items.result.now c.loop-entry-test.false ∙ c.deref-entry-items.ensures.value ∙
    ap (λ (r : InfoValue). r.modules) c.value.view_is in
    record {
      required = gathers_next (λ (info : ℕ × InfoValue). flat_map (lookups_of ps info.0 info.1.target) info.1.modules) infos i
          [] at c.loop-info.invariant.required
          (c.loop-entry.invariant.required ∙
          ap (λ entries. map looked_up c.loop-info.all.items ++ flat_map (lookups_of ps i c.value.inside.target) entries) whole ∙
          ap (λ (v : InfoValue). map looked_up c.loop-info.all.items ++ flat_map (lookups_of ps i v.target) value.modules) c.value.view_is);
      needs = gathers_next (info_rows (names_of ps)) infos i (rows c.args.needs.now.items) at c.loop-info.invariant.needs
          (c.loop-entry.invariant.needs ∙
          ap (λ entries. rows c.loop-info.needs.items ++ map (λ (m : ModuleValue). indexes_in (names_of ps) m.required) entries) whole);
    }

pub returns-clause-required : goal.returns-clause-required
returns-clause-required c = record {
  same =
      let t = c.args.modules.now in
      c.loop-info.invariant.required
      ∙ ap (λ infos. flat_map (λ (info : ℕ × InfoValue). flat_map (lookups_of (provisions t) info.0 info.1.target) info.1.modules) (enumerate_from 0 infos))
      (take_all c.loop-info.info c.infos-infos.result.now c.loop-info-test.false ∙ c.infos-infos.ensures.infos)
      ∙ sym (lookups t);
  differ = c.infos-infos.ensures.differ;
}

pub returns-clause-needs : goal.returns-clause-needs
returns-clause-needs c =
    c.loop-info.invariant.needs ∙
    ap (λ infos. rows c.args.needs.now.items ++ flat_map (info_rows (names_of (provisions c.args.modules.now))) (enumerate_from 0 infos))
    (take_all c.loop-info.info c.infos-infos.result.now c.loop-info-test.false ∙ c.infos-infos.ensures.infos)
