-- Where the tokens of a text and the parts of an assignment begin and end.
use Rattle.ninja_text.specs.Bytes.{Bytes}
use Rattle.std.proofs.Common.{inl, inr, ◌≡◌, ℕ, ◌+◌, ◌-◌, ◌<◌, ◌≤◌, true, ◌&&◌, List, [], ◌∷◌, ◌++◌, length, take, drop, map, refl, sym, ap, ◌∙◌, subst, arith, length-drop, Bool, get_or, Some, None, zero, suc}
use Rattle.std.specs.Prelude.{slice_range, Option, nat_lt}
use Rattle.std.specs.List.{AllByRecursion}
use Rattle.std.proofs.lemmas.Bool.{cases_Bool}
use Rattle.std.proofs.lemmas.List.{take-append-drop, length-take}
use Rattle.std.proofs.lemmas.List.Folds.{drop_split}
use Rattle.ninja_text.specs.Assignments.{AssignmentIndexes, LiesIn, with_bytes, after_run, is_name_unit, begins_with_equals, SeenAssignment, assignment_of}
use Rattle.ninja_text.specs.Units.{LineUnits, units, with_continuation, unit_len, is_byte}
use Rattle.ninja_text.specs.declared.lexing.LineUnit.{LineUnit}
use Rattle.ninja_text.specs.declared.lexing.LineUnit.TheVariants.{Continuation, Escape, Byte}
use Rattle.ninja_text.specs.Tokens.{TokenAt, is_piece, with_first_start, with_unit, tokens_from, tokens, with_raw, seen_tokens, IsSlice, RiseFrom, is_blank}
use Rattle.ninja_text.proofs.Units.{byte_is, byte_len, tokens_with, units_byte, tokens_blank}

-- ---- they rise and lie in the text

-- how many bytes units are
abbrev total : LineUnits → ℕ
total [] = 0
total (u ∷ us) = unit_len u + total us

total_with_continuation : (len : ℕ) (us : LineUnits) → total (with_continuation len us) ≡ len + total us
total_with_continuation len [] = refl
total_with_continuation len (Byte b ∷ us) = grind (arith, cases_Bool, total_with_continuation (len + 1) us)
total_with_continuation len (Escape b ∷ us) = refl
total_with_continuation len (Continuation more ∷ us) = refl

-- the units of a text are all of its bytes
total_units : (bytes : Bytes) → total (units bytes) ≡ length bytes
total_units [] = refl
total_units (a ∷ []) = refl
total_units (a ∷ b ∷ []) = grind (arith, cases_Bool)
total_units (a ∷ b ∷ c ∷ bytes) = grind (arith, cases_Bool, total_units (c ∷ bytes), total_with_continuation, total_units bytes, total_units (b ∷ c ∷ bytes))

-- from an index up to a limit each token has at least one byte, and begins at the end of the one
-- before it, or after
-- that
abbrev Rise : ℕ → ℕ → List TokenAt → Type 0
Rise index limit [] = index ≤ limit
Rise index limit (t ∷ ts) = (index ≤ t.start) × (t.start < t.end) × Rise t.end limit ts

rise_within : (index limit : ℕ) (ts : List TokenAt) → Rise index limit ts → index ≤ limit
rise_within index limit [] h = h
rise_within index limit (t ∷ ts) h = omega (arith, h.0, h.1, rise_within t.end limit ts h.2)

rise_earlier : (from index limit : ℕ) (ts : List TokenAt) → from ≤ index → Rise index limit ts → Rise from limit ts
rise_earlier from index limit [] le h = omega (arith, h)
rise_earlier from index limit (t ∷ ts) le h = (omega (arith, h.0), h.1, h.2)

rise_first : (from index limit : ℕ) (ts : List TokenAt) → from < index → Rise index limit ts → Rise from limit (with_first_start from ts)
rise_first from index limit [] lt h = omega (arith, h)
rise_first from index limit (t ∷ ts) lt h = (omega arith, omega (arith, h.0, h.1), h.2)

piece_len : (u : LineUnit) → is_piece u ≡ true → 0 < unit_len u
piece_len (Continuation len) h = cc
piece_len (Escape b) h = omega arith
piece_len (Byte b) h = omega arith

rise_with : (index limit : ℕ) (u : LineUnit) (us : LineUnits) (rest : List TokenAt) → Rise (index + unit_len u) limit rest →
    Rise index limit (with_unit index u us rest)
rise_with index limit u us rest h = grind (arith, cases_Bool, rise_first, piece_len, byte_len, rise_earlier)

rise_from : (us : LineUnits) (index limit : ℕ) → index + total us ≤ limit → Rise index limit (tokens_from index us)
rise_from [] index limit h = omega arith
rise_from (u ∷ []) index limit h = rise_with index limit u [] [] (omega arith)
rise_from (u ∷ v ∷ us) index limit h = elim (cases_Bool (is_byte 124 u)) [
  | inr n ↦ subst (Rise index limit) (sym (tokens_with index u (v ∷ us) n))
      (rise_with index limit u (v ∷ us) _ (rise_from (v ∷ us) (index + unit_len u) limit (omega arith)))
  | inl b ↦ elim (cases_Bool (is_byte 124 v)) [
    | inl d ↦ rw (b, d) (omega arith, omega arith, rise_from us (index + 2) limit (omega (arith, byte_len 124 u b, byte_len 124 v d)))
    | inr d ↦ elim (cases_Bool (is_byte 64 v)) [
      | inl a ↦ rw (b, d, a) (omega arith, omega arith, rise_from us (index + 2) limit (omega (arith, byte_len 124 u b, byte_len 64 v a)))
      | inr a ↦ subst (λ w. Rise index limit (tokens_from index (w ∷ v ∷ us))) (sym (byte_is 124 u b))
          (rw (d, a) (omega arith, omega arith, rise_from (v ∷ us) (index + 1) limit (omega (arith, byte_len 124 u b))))
    ]
  ]
]

-- the tokens of a text rise within it
rise_all : (text : Bytes) → Rise 0 (length text) (tokens text)
rise_all text = rise_from (units text) 0 (length text) (omega (arith, total_units text))

slices_of : (text : Bytes) (index : ℕ) (ts : List TokenAt) → Rise index (length text) ts → AllByRecursion (IsSlice text) (map (with_raw text) ts)
slices_of text index [] h = tt
slices_of text index (t ∷ ts) h = grind (arith, rise_within, length, slices_of text t.end ts h.2)

rising : (text : Bytes) (index limit : ℕ) (ts : List TokenAt) → Rise index limit ts → RiseFrom index (map (with_raw text) ts)
rising text index limit [] h = tt
rising text index limit (t ∷ ts) h = (h.0, rising text t.end limit ts h.2)

pub tokens_are_slices : (text : Bytes) → AllByRecursion (IsSlice text) (seen_tokens text)
tokens_are_slices text = slices_of text 0 (tokens text) (rise_all text)

pub tokens_rise : (text : Bytes) → RiseFrom 0 (seen_tokens text)
tokens_rise text = rising text 0 (length text) (tokens text) (rise_all text)

-- the parts of an assignment, by their indexes
pub lies_in : (text : Bytes) (a : AssignmentIndexes) → a.name_start < a.name_end → a.name_end ≤ a.value_start → a.name_end ≤ length text →
    LiesIn text (with_bytes text a)
lies_in text a some past within = record {
  some = rw (length-take (a.name_end - a.name_start) (drop a.name_start text), length-drop a.name_start text) (omega arith);
  between = slice_range text a.name_end a.value_start;
  whole = sym (take-append-drop a.name_start text) ∙ ap (λ xs. take a.name_start text ++ xs)
      (drop_split text a.name_start a.name_end (omega arith) ∙
      ap (λ xs. slice_range text a.name_start a.name_end ++ xs) (drop_split text a.name_end a.value_start past));
}

-- ---- nothing of an indented text is at its first byte

run_past : (test : LineUnit → Bool) (index : ℕ) (us : LineUnits) → index ≤ (after_run test index us).place
run_past test index [] = omega arith
run_past test index (u ∷ us) = grind (arith, cases_Bool, run_past test (index + unit_len u) us)

first_start : {a b : TokenAt} {xs ys : List TokenAt} → a ∷ xs ≡ b ∷ ys → a.start ≡ b.start
first_start {a} {b} h = cc

none_first : {b : TokenAt} {bs : List TokenAt} {A : Type 0} → ◌≡◌ {A = List TokenAt} [] (b ∷ bs) → A
none_first h = absurd (cc)

widened_starts : (index : ℕ) (rest : List TokenAt) (t : TokenAt) (ts : List TokenAt) → with_first_start index rest ≡ t ∷ ts → index ≤ t.start
widened_starts index [] t ts h = none_first h
widened_starts index (x ∷ xs) t ts h = omega (arith, first_start h)

with_unit_past : (index : ℕ) (u : LineUnit) (us : LineUnits) (rest : List TokenAt) (t : TokenAt) (ts : List TokenAt) → (rest ≡ t ∷ ts → index ≤ t.start) →
    with_unit index u us rest ≡ t ∷ ts → index ≤ t.start
with_unit_past index u us rest t ts later h = grind (arith, cases_Bool, widened_starts, first_start)

tokens_past : (us : LineUnits) (index : ℕ) (t : TokenAt) (ts : List TokenAt) → tokens_from index us ≡ t ∷ ts → index ≤ t.start
tokens_past [] index t ts h = none_first h
tokens_past (u ∷ []) index t ts h = with_unit_past index u [] [] t ts none_first h
tokens_past (u ∷ v ∷ us) index t ts h = elim (cases_Bool (is_byte 124 u)) [
  | inr n ↦ with_unit_past index u (v ∷ us) (tokens_from (index + unit_len u) (v ∷ us)) t ts
      (λ e. omega (arith, tokens_past (v ∷ us) (index + unit_len u) t ts e)) (sym (tokens_with index u (v ∷ us) n) ∙ h)
  | inl b ↦ elim (cases_Bool (is_byte 124 v)) [
    | inl d ↦ omega (arith, first_start (rw (b, d) at h))
    | inr d ↦ elim (cases_Bool (is_byte 64 v)) [
      | inl a ↦ omega (arith, first_start (rw (b, d, a) at h))
      | inr a ↦ let h' : tokens_from index (Byte 124 ∷ v ∷ us) ≡ t ∷ ts = subst (λ w. tokens_from index (w ∷ v ∷ us) ≡ t ∷ ts) (byte_is 124 u b) h in
          omega (arith, first_start (rw (d, a) at h'))
    ]
  ]
]

-- a text that begins with a space has no token at its first byte
pub token_indented : (bytes : Bytes) (t : TokenAt) (ts : List TokenAt) → tokens (32 ∷ bytes) ≡ t ∷ ts → 0 < t.start
token_indented bytes t ts h = grind (arith, units_byte, tokens_blank, tokens_past)

-- what an assignment has
pub record Parts (text : Bytes) (a : SeenAssignment) : Type 0 where
  pub start : a.name_start ≡ (after_run is_blank 0 (units text)).place
  pub end : ℕ
  pub name : a.name ≡ slice_range text a.name_start end

parts_from : (text : Bytes) (p : AssignmentIndexes) (a : SeenAssignment) → p.name_start ≡ (after_run is_blank 0 (units text)).place →
    ◌≡◌ {A = Option SeenAssignment} (Some (with_bytes text p)) (Some a) → Parts text a
parts_from text p a start h =
    let same : with_bytes text p ≡ a = cc in
    subst (Parts text) same (record { start = start; end = p.name_end; name = refl })

pub assignment_parts : (text : Bytes) (a : SeenAssignment) → assignment_of text ≡ Some a → Parts text a
assignment_parts text a h =
    let name = after_run is_blank 0 (units text) in
    let past_name = after_run is_name_unit name.place name.units in
    let sign = after_run is_blank past_name.place past_name.units in
    elim (cases_Bool (nat_lt name.place past_name.place && begins_with_equals sign.units)) [
      | inl t ↦ parts_from text _ a refl (rw t at h)
      | inr f ↦ absurd (let x : ◌≡◌ {A = Option SeenAssignment} None (Some a) = rw f at h in cc)
    ]

pub name_indented : (bytes : Bytes) (a : SeenAssignment) → assignment_of (32 ∷ bytes) ≡ Some a → 0 < a.name_start
name_indented bytes a h =
    let p = assignment_parts (32 ∷ bytes) a h in
    let at : (after_run is_blank 0 (units (32 ∷ bytes))).place ≡ (after_run is_blank (0 + 1) (units bytes)).place =
    ap (λ us. (after_run is_blank 0 us).place) (units_byte 32 bytes refl) in
    omega (arith, p.start, at, run_past is_blank (0 + 1) (units bytes))

-- the first byte of a part that begins at the front
pub slice_first : (text : Bytes) (end x : ℕ) (xs : Bytes) → slice_range text 0 end ≡ x ∷ xs → get_or text 0 0 ≡ x
slice_first [] end x xs h = cc (nothing (end - 0) ∙ h) where
  nothing : (n : ℕ) → ◌≡◌ {A = Bytes} [] (take n [])
  nothing zero = refl
  nothing (suc n) = refl
slice_first (y ∷ ys) end x xs h = go (end - 0) h where
  go : (n : ℕ) → take n (y ∷ ys) ≡ x ∷ xs → y ≡ x
  go zero h = cc
  go (suc n) h = cc
