use Rattle.std.proofs.Common.{rules, tests, ◌∙◌, ◌≡◌, ℕ, true, ap, inl, inr, List, refl, slice_get, Some, subst, sym}
use Rattle.std.proofs.lemmas.Iterator.{YieldsList-from_slice, cases_from_all}
use Rattle.std.proofs.lemmas.Option.{slice_get_read}
use Rattle.module_table.specs.Prelude.{Has, InWord, Word, IsProvidedFor, ModuleValue}
use Rattle.module_table.proofs.PoolLemmas.{all_true, below_all, below_next, modules_of}
use Rattle.ninja_text.proofs.ForCallers.{same_some}
use Rattle.module_table.proofs.pool.links.Links.is_closed.Goals as goal
use Rattle.module_table.proofs.Words.{Pair}

pub loop-pair-preserved : goal.loop-pair-preserved
loop-pair-preserved c =
    let required = c.deref-pair-items.result.now in
    let i = c.loop-pair.pair-index in
    below_next (IsProvidedFor c.args.self.now.linked.now c.args.infos.now c.args.info) required i c.pair-item.result
    (slice_get_read required _ i c.pair-item.result refl c.loop-pair-test.true c.pair-item.is) c.loop-pair.invariant
    (c.provides.ensures c.if-not-provides.false)

pub loop-module-preserved : goal.loop-module-preserved
loop-module-preserved c =
    let modules = c.deref-module-items.result.now in
    let m = c.module-item.result in
    let i = c.loop-module.module-index in
    let Provided = IsProvidedFor c.args.self.now.linked.now c.args.infos.now c.args.info in
    let pairs = c.deref-pair-items.ensures.value ∙ ap (λ (m : ModuleValue). m.required) c.module.view_is in
    below_next (λ (m : ModuleValue). (pair : Pair) → Has m.required pair → Provided pair) modules i m
    (slice_get_read modules _ i m refl c.loop-module-test.true c.module-item.is) c.loop-module.invariant
    (subst (λ (xs : List Pair). (pair : Pair) → Has xs pair → Provided pair) pairs
    (below_all Provided c.deref-pair-items.result.now c.loop-pair.pair-index c.loop-pair-test.false c.loop-pair.invariant))

pub returns : goal.returns
returns c = λ is. let known = c.args.infos.now in
    let n = c.args.info in
    let modules = c.deref-module-items.result.now in
    let list = c.deref-module-items.ensures.value ∙ ap modules_of c.requiring.view_is in
    let h = c.in-Some-Some.ensures.lookup in
    let here = slice_get_read known _ n c.in-Some-Some.field-0.now refl h.3.0 h.1 ∙ ap Some c.in-Some-Some.field-0-is in
    let Provided = IsProvidedFor c.args.self.now.linked.now known n in
    let each = below_all (λ (m : ModuleValue). (pair : Pair) → Has m.required pair → Provided pair) modules c.loop-module.module-index
    c.loop-module-test.false c.loop-module.invariant in
    inr (λ j m pair has needs.
    let same : has.0 ≡ c.in-Some-Some.requiring = same_some _ _ (same_some _ _ (sym has.1 ∙ here)) in
    each m (j, ap (λ xs. slice_get xs j) (list ∙ ap modules_of (sym same)) ∙ has.2) pair needs)

pub returns-then-all : goal.returns-then-all
returns-then-all c = λ is.
    let All : Word → Type 0 = λ w. (k : ℕ) → InWord w k → Has c.args.self.now.linked.now k in
    let No : Word → Type 0 = λ w. true ≡ true in
    let all = all_true All _ c.args.relations.now.sources.items c.all.result
    (cases_from_all _ _ _ All No c.all.ensures.ran
    (YieldsList-from_slice c.args.relations.now.sources.items (c.iter.ensures.rest ∙ c.deref.ensures.value))
    (λ x q k. search (rules, tests)) (λ x q k. refl)) c.if-all.true in
    inl (λ k h. all h.0 h.1 k h.2)
