use Rattle.std.proofs.Common.{◌≡◌, ◌∙◌, ap, refl, slice_get, Some, subst, sym, true, true≢false}
use Rattle.std.proofs.lemmas.Bool.{not-true}
use Rattle.std.proofs.lemmas.Option.{slice_get_read}
use Rattle.module_table.specs.Prelude.{IsKnownModule, ModuleValue}
use Rattle.module_table.proofs.PoolLemmas.{is_source, modules_of}
use Rattle.module_table.proofs.pool.links.Links.provides.Goals as goal
use Rattle.module_table.proofs.pool.links.Links.provides.Goals.{then-is_own, else-is_own}

pub returns-then-not-module : goal.returns-then-not-module
returns-then-not-module c = λ is.
    let known = c.args.infos.now in
    let at = c.in-Some.at in
    let h = c.in-Some-Some.ensures.lookup in
    let there = slice_get_read known _ at.info c.in-Some-Some.field-0.now refl h.3.0 h.1 ∙ ap Some c.in-Some-Some.field-0-is in
    let l = c.in-Some-get.ensures.lookup in
    let found = ap (λ ms. slice_get ms at.module) (sym (c.deref.ensures.value ∙ ap modules_of c.provider.view_is))
    ∙ slice_get_read c.deref.result.now _ at.module c.in-Some-get.module.now refl l.3.0 l.1 in
    let own : c.module.inside.is_private ≡ true → at.info ≡ c.args.info =
    λ private. elim c.if-is_own.branch [
      | then-is_own w ↦ w.if-is_own.true
      | else-is_own w ↦ absurd (true≢false (sym private ∙ not-true _ (sym w.value-is ∙ c.if-not-module.true)))
    ] in (
      at.info,
      c.has.ensures.linked c.if-not-has.false,
      is_source known c.args.info at.info at.module _ c.args.pair.now
          (subst (λ (m : ModuleValue). IsKnownModule known at.info at.module m) (sym c.module.view_is) (c.in-Some-Some.provider, there, found))
          (sym c.eq.ensures ∙ c.if-eq.true) (sym c.eq-then-eq.ensures ∙ c.if-eq-2.true) own,
    )
