use Rattle.std.proofs.Common.{rules, tests, ◌∙◌, ◌≡◌, ℕ, Some, true, true≢false, ap, get_or, refl, sym}
use Rattle.std.proofs.lemmas.Iterator.{YieldsList-from_slice, cases_from_all}
use Rattle.std.proofs.lemmas.Option.{slice_get-get_or, slice_get_read}
use Rattle.module_table.specs.Prelude.{Has, InWord, IsFitAt, Word}
use Rattle.module_table.proofs.PoolLemmas.{all_true, below_all, below_next}
use Rattle.module_table.proofs.pool.links.Links.are_fit.Goals as goal
use Rattle.module_table.proofs.pool.links.Links.are_fit.Goals.{then-is_closed, else-is_closed}

pub loop-info-preserved : goal.loop-info-preserved
loop-info-preserved c =
    let linked = c.args.self.now.linked.now in
    let related = c.args.related.now in
    let i = c.loop-info.info-index in
    let n = get_or linked i 0 in
    let relations = c.in-Some-Some.relations in
    let found = c.in-Some-Some.ensures.lookup in
    let Apart : Word → Type 0 = λ w. (k : ℕ) → InWord w k → Has linked k → ⊥ in
    let No : Word → Type 0 = λ w. true ≡ true in
    let fit : IsFitAt linked c.args.infos.now related n = elim c.if-is_closed.branch [
      | then-is_closed w ↦
          let all = all_true Apart _ relations.shared.items w.all-is_fit.result
          (cases_from_all _ _ _ Apart No w.all-is_fit.ensures.ran
          (YieldsList-from_slice relations.shared.items (w.iter.ensures.rest ∙ w.deref.ensures.value))
          (λ x q k. search (rules, tests)) (λ x q k. refl)) (sym w.is_fit-is ∙ c.if-not-is_fit.false) in (
            relations,
            slice_get_read related _ n c.in-Some-Some.field-0.now refl found.3.0 found.1 ∙ ap Some c.in-Some-Some.field-0-is,
            c.is_closed.ensures w.if-is_closed.true,
            λ k h. all h.0 h.1 k h.2,
          )
      | else-is_closed w ↦ absurd (true≢false (sym c.if-not-is_fit.false ∙ w.is_fit-is ∙ w.if-is_closed.false))
    ] in
    below_next (IsFitAt linked c.args.infos.now related) linked i n (slice_get-get_or linked i 0 c.loop-info-test.true) c.loop-info.invariant fit

pub returns : goal.returns
returns c = λ is. below_all (IsFitAt c.args.self.now.linked.now c.args.infos.now c.args.related.now) c.args.self.now.linked.now c.loop-info.info-index
    c.loop-info-test.false c.loop-info.invariant
