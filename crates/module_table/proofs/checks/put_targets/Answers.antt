use Rattle.std.proofs.Common.{◌≡◌, ap, map, refl, subst, sym, ◌∙◌, List, ℕ, Bor, Some}
use Rattle.module_table.specs.Prelude.{InfoValue, AllDiffer, IsFirstRepetition, InfoTwice, Reports, TableValue, Name}
use Rattle.module_table.proofs.Lists.{repeats_if_found, added_if_new, text_repetition, read_at}
use Rattle.module_table.proofs.IndexRows.{map_take_all}
use Rattle.module_table.proofs.Found.{reports_same, for_boxed}
use Rattle.module_table.proofs.checks.put_targets.Goals as goal
use Rattle.ninja_text.proofs.ForCallers.{to_map}
use Rattle.module_table.proofs.Words.{target_of}

abbrev text_of : Bor (List ℕ) → List ℕ
text_of target = target.now

pub returns-then-not-is_new-clause-fault : goal.returns-then-not-is_new-clause-fault
returns-then-not-is_new-clause-fault c =
    let infos = c.args.infos.now in
    let i = c.loop-info.info-index in
    let first = c.in_ok-is_new.field-0-0 in
    let target = c.info.inside.target in
    let at = to_map target_of infos i _ (read_at infos i c.loop-info-test.true c.info-item.is) ∙ ap (λ (r : InfoValue). Some r.target) (sym c.info.view_is) in
    let h = c.in_ok-is_new.ensures in
    let repeated = repeats_if_found text_of (map target_of infos) i _ c.loop-info.targets.keys at c.loop-info.invariant.same
    c.loop-info.invariant.differ h.keys first (sym c.if-not-is_new.true ∙ h.added) h.stored in
    for_boxed (λ fault. (t : TableValue) (kept : List Name) → infos ≡ t.infos → Reports 2 t kept fault) _ _
    (λ t kept same. reports_same 2 t kept (ap InfoTwice c.in_ok-target.ensures)
    (record {
      present = (
        first,
        i,
        subst (λ xs. IsFirstRepetition (λ a b. a ≡ b) (map target_of xs) first i target target) same
            (text_repetition (map target_of infos) first i target repeated at),
      );
      coded = refl;
    }))
    c.failure_of.ensures

pub loop-info-preserved : goal.loop-info-preserved
loop-info-preserved c =
    let infos = c.args.infos.now in
    let i = c.loop-info.info-index in
    let info = c.info-item.result in
    let at = to_map target_of infos i info (read_at infos i c.loop-info-test.true c.info-item.is) ∙
    ap (λ (r : InfoValue). Some r.target) (sym c.info.view_is) in
    let h = c.in_ok-is_new.ensures in
    let now = added_if_new text_of (map target_of infos) i _ c.loop-info.targets.keys at c.loop-info.invariant.same c.loop-info.invariant.differ h.keys
    (sym c.if-not-is_new.false ∙ h.added) in
    record { same = now.0; differ = now.1 }

pub returns-clause-ok : goal.returns-clause-ok
returns-clause-ok c =
    subst AllDiffer (map_take_all target_of c.args.infos.now c.loop-info.info-index c.loop-info-test.false) c.loop-info.invariant.differ
