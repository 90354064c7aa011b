-- Sets of info files as bits, in words of 64.
use Rattle.std.proofs.Common.{◌≡◌, ◌⊎◌, ℕ, zero, suc, ◌++◌, ◌-◌, refl, replicate, take, ◌<◌, ◌≤◌, ◌/◌, ◌%◌, ◌*◌, ◌^◌, min, max, List, Some, length, set, get_or, slice_get, bit_and, bit_or, inl, inr, ap, sym, subst, ◌∙◌, arith, w64}
use Rattle.std.specs.Int.{bit_at}
use Rattle.std.proofs.lemmas.Bool.{cases_eq}
use Rattle.std.proofs.lemmas.Nat.Bits.{bit_at_and, bit_at_or, bit_at-lt, bit_at-zero, bit_at_set_same, bit_at_set_other}
use Rattle.std.proofs.lemmas.List.{get_or-set_same, get_or-set_other, get_or_append_left, get_or-append_right, get_or_past, take_all}
use Rattle.std.proofs.lemmas.Option.{slice_get_within}
use Rattle.module_table.proofs.Lists.{set_there, set_elsewhere}
use Rattle.ninja_text.proofs.ForCallers.{same_some, three_ways}
use Rattle.module_table.specs.Prelude.{HasBit, InWord, InWords, Word}

-- ---- bits of two words

one_of_min : (x y : ℕ) → x ≡ min x y → x ≡ 1 → y < 2 → y ≡ 1
one_of_min x y both one low = omega arith

-- a bit of a, of which b has all bits
pub in_both : (a b i : ℕ) → bit_and a b ≡ a → bit_at a i ≡ 1 → bit_at b i ≡ 1
in_both a b i both one = one_of_min (bit_at a i) (bit_at b i) (ap (λ n. bit_at n i) (sym both) ∙ bit_at_and a b i) one (bit_at-lt b i)

none_of_min : (x y : ℕ) → 0 ≡ min x y → x ≡ 1 → y ≡ 1 → ⊥
none_of_min x y both one other = omega arith

-- two words without a bit in common
pub in_neither : (a b i : ℕ) → bit_and a b ≡ 0 → bit_at a i ≡ 1 → bit_at b i ≡ 1 → ⊥
in_neither a b i none = none_of_min (bit_at a i) (bit_at b i) (sym (bit_at-zero i) ∙ ap (λ n. bit_at n i) (sym none) ∙ bit_at_and a b i)

one_of_max : (x y m : ℕ) → m ≡ max x y → x < 2 → y < 2 → (x ≡ 1 → m ≡ 1) × (y ≡ 1 → m ≡ 1)
one_of_max x y m is low_x low_y = (λ one. omega arith, λ one. omega arith)

pub or_first : (a b i : ℕ) → bit_at a i ≡ 1 → bit_at (bit_or a b) i ≡ 1
or_first a b i = (one_of_max (bit_at a i) (bit_at b i) _ (bit_at_or a b i) (bit_at-lt a i) (bit_at-lt b i)).0

pub or_second : (a b i : ℕ) → bit_at b i ≡ 1 → bit_at (bit_or a b) i ≡ 1
or_second a b i = (one_of_max (bit_at a i) (bit_at b i) _ (bit_at_or a b i) (bit_at-lt a i) (bit_at-lt b i)).1

either : (x y : ℕ) → max x y ≡ 1 → (x ≡ 1) ⊎ (y ≡ 1)
either zero y e = inr (omega (arith, e))
either (suc zero) y e = inl (omega (arith, e))
either (suc (suc x)) y e = absurd (omega (arith, e))

from_or : (a b i : ℕ) → bit_at (bit_or a b) i ≡ 1 → (bit_at a i ≡ 1) ⊎ (bit_at b i ≡ 1)
from_or a b i one = either (bit_at a i) (bit_at b i) (sym (bit_at_or a b i) ∙ one)

pub no_bit : (i : ℕ) → bit_at 0 i ≡ 1 → ⊥
no_bit i one = let none = bit_at-zero i in omega (arith, none, one)

-- ---- the word of one info file

only : (k i : ℕ) → k < 64 → (bit_at (1 * 2 ^ k % 18446744073709551616) i ≡ 1 → i ≡ k) × (i ≡ k → bit_at (1 * 2 ^ k % 18446744073709551616) i ≡ 1)
only k i within =
    let word = 1 * 2 ^ k % 18446744073709551616 in (
      λ one. elim (cases_eq i k) [
        | inl same ↦ same
        | inr other ↦ absurd (no_bit i (sym (bit_at_set_other w64 0 k within i other) ∙ or_second 0 word i one))
      ],
      λ same. elim (from_or 0 word i (ap (bit_at (bit_or 0 word)) same ∙ bit_at_set_same w64 0 k within)) [ inl none ↦ absurd (no_bit i none) | inr one ↦ one ],
    )

same_place : (k n : ℕ) → k / 64 ≡ n / 64 → k % 64 ≡ n % 64 → k ≡ n
same_place k n high low = omega arith

low_bits : (k : ℕ) → k % 64 < 64
low_bits k = omega arith

pub in_own_word : (info : ℕ) (word : Word) → word.index ≡ info / 64 → word.bits ≡ 1 * 2 ^ (info % 64) % 18446744073709551616 → InWord word info
in_own_word info word index bits = (index, ap (λ n. bit_at n (info % 64)) bits ∙ (only (info % 64) (info % 64) (low_bits info)).1 refl)

pub alone_in_word : (info : ℕ) (word : Word) → word.index ≡ info / 64 → word.bits ≡ 1 * 2 ^ (info % 64) % 18446744073709551616
    → (k : ℕ) → InWord word k → k ≡ info
alone_in_word info word index bits k has =
    same_place k info (sym has.0 ∙ index)
    ((only (info % 64) (k % 64) (low_bits info)).0 (ap (λ n. bit_at n (k % 64)) (sym bits) ∙ has.1))

-- ---- a longer set

no_bits : (m k : ℕ) → get_or (replicate m 0) k 0 ≡ (let none : ℕ = 0 in none)
no_bits zero k = refl
no_bits (suc m) zero = refl
no_bits (suc m) (suc k) = no_bits m k

-- a set that is filled up has the same bits
pub filled : (words new : List ℕ) (n m k : ℕ) → length words ≤ n → new ≡ take n words ++ replicate m 0 → get_or new k 0 ≡ get_or words k 0
filled words new n m k long is =
    let zeros : List ℕ = replicate m 0 in
    let whole : new ≡ words ++ zeros = is ∙ ap (λ ws. ws ++ zeros) (take_all n words long) in
    let at : get_or (words ++ zeros) k 0 ≡ get_or words k 0 = elim (three_ways k (length words)) [
      | inl less ↦ get_or_append_left words zeros 0 k less
      | inr rest ↦
          let past : length words ≤ k = elim rest [ inl same ↦ omega (arith, same) | inr more ↦ omega (arith, more) ] in
          get_or-append_right words zeros (length words) k 0 refl past ∙ no_bits m (k - length words) ∙ sym (get_or_past words k 0 past)
    ] in
    ap (λ ws. get_or ws k 0) whole ∙ at

-- ---- a set and one more word

module _ (words : List ℕ) (word : Word) (within : word.index < length words) where
  abbrev bits : ℕ
  bits = bit_or (get_or words word.index 0) word.bits

  abbrev pub with_word : List ℕ
  with_word = set words word.index bits

  here : (k : ℕ) → k / 64 ≡ word.index → get_or with_word (k / 64) 0 ≡ bits
  here k same = ap (λ n. get_or with_word n 0) same ∙ get_or-set_same words word.index bits 0 within

  pub word_put : (k : ℕ) → InWord word k → HasBit with_word k
  word_put k has = ap (λ n. bit_at n (k % 64)) (here k (sym has.0)) ∙ or_second (get_or words word.index 0) word.bits (k % 64) has.1

  pub bit_kept : (k : ℕ) → HasBit words k → HasBit with_word k
  bit_kept k has = elim (cases_eq (k / 64) word.index) [
    | inl same ↦ ap (λ n. bit_at n (k % 64)) (here k same)
        ∙ or_first (get_or words word.index 0) word.bits (k % 64) (ap (λ n. bit_at (get_or words n 0) (k % 64)) (sym same) ∙ has)
    | inr other ↦ ap (λ n. bit_at n (k % 64)) (get_or-set_other words word.index (k / 64) bits 0 other) ∙ has
  ]

  pub bit_from : (k : ℕ) → HasBit with_word k → HasBit words k ⊎ InWord word k
  bit_from k has = elim (cases_eq (k / 64) word.index) [
    | inl same ↦ elim (from_or (get_or words word.index 0) word.bits (k % 64) (ap (λ n. bit_at n (k % 64)) (sym (here k same)) ∙ has)) [
      | inl old ↦ inl (ap (λ n. bit_at (get_or words n 0) (k % 64)) same ∙ old)
      | inr new ↦ inr (sym same, new)
    ]
    | inr other ↦ inl (ap (λ n. bit_at n (k % 64)) (sym (get_or-set_other words word.index (k / 64) bits 0 other)) ∙ has)
  ]

-- ---- a word with more bits

module _ (words : List Word) (n : ℕ) (last : Word) (at : slice_get words n ≡ Some last) (more : ℕ) where
  abbrev wider : Word
  wider = record { index = last.index; bits = bit_or last.bits more }

  abbrev pub with_wider : List Word
  with_wider = set words n wider

  there : slice_get with_wider n ≡ Some wider
  there = set_there words n wider (slice_get_within words n last at)

  pub bits_added : (k : ℕ) → last.index ≡ k / 64 → bit_at more (k % 64) ≡ 1 → InWords with_wider k
  bits_added k index one = (wider, (n, there), (index, or_second last.bits more (k % 64) one))

  pub bits_stay : (k : ℕ) → InWords words k → InWords with_wider k
  bits_stay k h = elim (cases_eq h.1.0 n) [
    | inl same ↦
        let own : InWord last k = subst (λ w. InWord w k) (same_some _ _ (sym h.1.1 ∙ ap (slice_get words) same ∙ at)) h.2 in
        (wider, (n, there), (own.0, or_first last.bits more (k % 64) own.1))
    | inr other ↦ (h.0, (h.1.0, set_elsewhere words n h.1.0 wider h.0 h.1.1 other), h.2)
  ]
