use Rattle.std.proofs.Common.{◌≡◌, ◌∙◌, ◌++◌, ◌∷◌, [], Some, true, true≢false, get_or, length, refl, ap, subst, sym, slice_get}
use Rattle.std.proofs.lemmas.Bool.{not-true}
use Rattle.std.proofs.lemmas.Option.{slice_get_read}
use Rattle.module_table.specs.Prelude.{ModuleValue, module_at, IsKnownModule}
use Rattle.module_table.proofs.PoolLemmas.{is_source, last_at, modules_of}
use Rattle.ninja_text.proofs.ForCallers.{in_first}
use Rattle.module_table.proofs.pool.rows.source_of.Goals as goal
use Rattle.module_table.proofs.pool.rows.source_of.Goals.{in-Some-Some, in-None, then-is_own-2, else-is_own-2}
use Rattle.module_table.proofs.Words.{At}

pub returns-then-not-module : goal.returns-then-not-module
returns-then-not-module c =
    let infos = c.args.infos.now in
    let info = c.args.info.now in
    let known = infos ++ Some info ∷ [] in
    let row = c.in_ok-row.row.now in
    let at = get_or (row.last ∷ row.first ∷ c.unwrap_or-sharing.result ∷ []) c.loop-at.at-index (module_at 0 0) in
    let other = c.match-get.other.now in
    let there : At known at.info (Some other) = elim c.match-get.branch [
      | in-Some-Some w ↦
          let o = w.in-Some-Some.ensures.lookup in
          let found = in_first infos (Some info ∷ []) at.info w.in-Some-Some.field-0.now
          (slice_get_read infos _ at.info w.in-Some-Some.field-0.now refl o.3.0 o.1) in
          found ∙ ap Some (w.in-Some-Some.field-0-is ∙ ap Some (sym (ap (λ o. o.now) w.other-is)))
      | in-None w ↦ last_at infos (Some info) at.info w.if-is_own.true ∙ ap (λ o. Some (Some o)) (sym (ap (λ o. o.now) w.other-is))
    ] in
    let h = c.in-Some.ensures.lookup in
    let found = ap (λ ms. slice_get ms at.module) (sym (c.deref.ensures.value ∙ ap modules_of c.other.view_is))
    ∙ slice_get_read c.deref.result.now _ at.module c.in-Some.module.now refl h.3.0 h.1 in
    let own : c.module.inside.is_private ≡ true → at.info ≡ length infos =
    λ private. elim c.if-is_own-2.branch [
      | then-is_own-2 w ↦ w.if-is_own-2.true
      | else-is_own-2 w ↦ absurd (true≢false (sym private ∙ not-true _ (sym w.value-is ∙ c.if-not-module.true)))
    ] in
    is_source known (length infos) at.info at.module _ c.args.pair.now
    (subst (λ (m : ModuleValue). IsKnownModule known at.info at.module m) (sym c.module.view_is) (other, there, found))
    (sym c.eq.ensures ∙ c.if-eq.true) (sym c.eq-then-eq.ensures ∙ c.if-eq-2.true) own
