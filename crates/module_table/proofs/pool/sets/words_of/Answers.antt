use Rattle.std.proofs.Common.{◌≡◌, ◌∙◌, ◌≤◌, ◌/◌, ◌%◌, ap, sym, subst, length, get_or, inl, inr, arith}
use Rattle.std.specs.Int.{bit_at}
use Rattle.std.proofs.lemmas.List.{get_or_past}
use Rattle.ninja_text.proofs.ForCallers.{three_ways}
use Rattle.module_table.specs.Prelude.{InWords, Word}
use Rattle.module_table.proofs.Bits.{no_bit}
use Rattle.module_table.proofs.PoolLemmas.{has_grown, has_new}
use Rattle.module_table.proofs.pool.sets.words_of.Goals as goal
use Rattle.module_table.proofs.pool.sets.words_of.Goals.{then-bits-ne0+in_ok-push, else-bits-ne0}

pub returns : goal.returns
returns c = λ k has. elim (three_ways (k / 64) (length c.args.set.now)) [
  | inl less ↦ c.loop-index.invariant k (omega (arith, less, c.loop-index-test.false)) has
  | inr rest ↦
      let past : length c.args.set.now ≤ k / 64 = elim rest [ inl same ↦ omega (arith, same) | inr more ↦ omega (arith, more) ] in
      absurd (no_bit (k % 64) (ap (λ n. bit_at n (k % 64)) (sym (get_or_past c.args.set.now (k / 64) 0 past)) ∙ has))
]

pub loop-index-preserved : goal.loop-index-preserved
loop-index-preserved c = λ k lt has.
    let set = c.args.set.now in
    let i = c.loop-index.index in
    let words = c.loop-index.words.items in
    let word : Word = record { index = i; bits = get_or set i 0 } in
    let here : k / 64 ≡ i → bit_at word.bits (k % 64) ≡ 1 = λ same. subst (λ n. bit_at (get_or set n 0) (k % 64) ≡ 1) same has in
    elim c.if-bits-ne0.branch [
      | then-bits-ne0+in_ok-push w ↦
          let pushed = ap (λ v. v.items) w.words-is ∙ w.in_ok-push.ensures.items in
          elim (three_ways (k / 64) i) [
            | inl less ↦ let f = c.loop-index.invariant k less has in (f.0, has_grown words _ word f.0 pushed f.1, f.2)
            | inr rest ↦ elim rest [
              | inl same ↦ (word, has_new words _ word pushed, (sym same, here same))
              | inr more ↦ absurd (omega (arith, lt, more))
            ]
          ]
      | else-bits-ne0 w ↦ subst (λ v. InWords v.items k) (sym w.words-is) (elim (three_ways (k / 64) i) [
        | inl less ↦ c.loop-index.invariant k less has
        | inr rest ↦ elim rest [
          | inl same ↦ absurd (no_bit (k % 64) (subst (λ n. bit_at n (k % 64) ≡ 1) w.if-bits-ne0.false (here same)))
          | inr more ↦ absurd (omega (arith, lt, more))
        ]
      ])
    ]
