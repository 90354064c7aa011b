use Rattle.std.proofs.Common.{◌∙◌, ℕ, Option, Bor, IfSome, ap, subst, sym}
use Rattle.std.proofs.lemmas.Option.{slice_get-get_or}
use Rattle.module_table.specs.Prelude.{Has, InWord, IsRowUnlinked, Row, Word}
use Rattle.module_table.specs.declared.pool.rows.Middle.{Middle}
use Rattle.module_table.proofs.PoolLemmas.{below_next, below_all, in_row, in_none, in_middle}
use Rattle.module_table.proofs.pool.links.Links.module_of.Goals as goal

pub loop-word-preserved : goal.loop-word-preserved
loop-word-preserved c =
    let words = c.deref-word-items.result.now in
    let i = c.loop-word.word-index in
    below_next (λ (w : Word). (k : ℕ) → InWord w k → Has c.args.self.now.linked.now k → ⊥) words i _
    (slice_get-get_or words i (record { index = 0; bits = 0 }) c.loop-word-test.true) c.loop-word.invariant c.in_default-one_of.ensures

pub returns-in_default : goal.returns-in_default
returns-in_default c =
    let linked = c.args.self.now.linked.now in
    subst (λ (found : Option (Bor Row)). IfSome found (λ row. IsRowUnlinked linked row.now)) (sym c.in_ok-row.was)
    (in_row (λ k. Has linked k → ⊥) c.in_ok-row.row.now (c.has.ensures.unlinked c.if-has.false) (c.has-2.ensures.unlinked c.if-has-2.false)
    (in_none _ _ c.in_default.is))

pub returns : goal.returns
returns c =
    let linked = c.args.self.now.linked.now in
    let No : ℕ → Type 0 = λ k. Has linked k → ⊥ in
    subst (λ (found : Option (Bor Row)). IfSome found (λ row. IsRowUnlinked linked row.now)) (sym c.in_ok-row.was)
    (in_row No c.in_ok-row.row.now (c.has.ensures.unlinked c.if-has.false) (c.has-2.ensures.unlinked c.if-has-2.false)
    (in_middle No _ c.in-Some.middle c.in-Some.is (λ w has. below_all (λ (w : Word). (k : ℕ) → InWord w k → No k) c.deref-word-items.result.now
    c.loop-word.word-index c.loop-word-test.false c.loop-word.invariant w (subst (λ xs. Has xs w) (sym (c.deref-word-items.ensures.value ∙
    ap (λ (m : Middle). m.infos.items) c.deref.ensures)) has))))
