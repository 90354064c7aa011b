-- An assignment has a token: its name begins a word.
use Rattle.std.proofs.lemmas.Grind.{common_steps}
use Rattle.std.proofs.Common.{inl, inr, ◌≡◌, ℕ, ◌+◌, ◌<◌, Bool, true, false, List, [], ◌∷◌, refl, Some, arith, rules}
use Rattle.std.specs.Prelude.{nat_lt, ◌&&◌}
use Rattle.std.specs.List.{list_any}
use Rattle.std.proofs.lemmas.Bool.{cases_Bool, ltb-true, and_parts}
use Rattle.ninja_text.specs.Units.{LineUnits, units, unit_len, is_byte}
use Rattle.ninja_text.specs.declared.lexing.LineUnit.{LineUnit}
use Rattle.ninja_text.specs.declared.lexing.LineUnit.TheVariants.{Continuation, Escape, Byte}
use Rattle.ninja_text.specs.Tokens.{TokenAt, is_blank, is_piece, goes_on, with_first_start, with_unit, tokens_from, tokens}
use Rattle.ninja_text.specs.Assignments.{after_run, is_name_unit, begins_with_equals, SeenAssignment, assignment_of}
use Rattle.ninja_text.specs.Paths.{is_empty}

any_later : (test : LineUnit → Bool) (u : LineUnit) (us : LineUnits) → list_any test us ≡ true → list_any test (u ∷ us) ≡ true
any_later test u us h = search rules

-- if a word continues, a piece follows
goes_on_piece : (us : LineUnits) → goes_on us ≡ true → list_any is_piece us ≡ true
goes_on_piece [] h = cc
goes_on_piece (Continuation len ∷ us) h = simp (any_later, goes_on_piece us h)
goes_on_piece (Escape b ∷ us) h = refl
goes_on_piece (Byte b ∷ us) h = rw h refl

none_added : {t : TokenAt} {ts : List TokenAt} {A : Type 0} → t ∷ ts ≡ [] → A
none_added h = absurd (cc)

none_widened : (index : ℕ) (ts : List TokenAt) → with_first_start index ts ≡ [] → ts ≡ []
none_widened index [] h = refl
none_widened index (t ∷ ts) h = none_added h

-- no token and a piece: never
none_with : (index : ℕ) (u : LineUnit) (us : LineUnits) (later : List TokenAt) → (later ≡ [] → list_any is_piece us ≡ true → ⊥) →
    with_unit index u us later ≡ [] → list_any is_piece (u ∷ us) ≡ true → ⊥
none_with index u us later none h piece = grind (arith, none_widened, goes_on_piece, none_added)

-- a text without tokens has no piece of a word
no_piece : (us : LineUnits) (index : ℕ) → tokens_from index us ≡ [] → list_any is_piece us ≡ true → ⊥
no_piece [] index h piece = cc
no_piece (u ∷ []) index h piece = grind (arith, common_steps)
no_piece (u ∷ v ∷ us) index h piece = elim (cases_Bool (is_byte 124 u)) [
  | inr n ↦ none_with index u (v ∷ us) (tokens_from (index + unit_len u) (v ∷ us)) (λ e p. no_piece (v ∷ us) (index + unit_len u) e p)
      (cc) piece
  | inl b ↦ grind (arith, common_steps)
]

-- what is left after a run is a part of all
run_any : (test : LineUnit → Bool) (index : ℕ) (us : LineUnits) → list_any is_piece (after_run test index us).units ≡ true → list_any is_piece us ≡ true
run_any test index [] h = h
run_any test index (u ∷ us) h = elim (cases_Bool (test u)) [
  | inl t ↦ any_later is_piece u us (run_any test (index + unit_len u) us (rw t at h))
  | inr f ↦ rw f at h
]

run_first : (index : ℕ) (us : LineUnits) → index < (after_run is_name_unit index us).place → list_any is_piece us ≡ true
run_first index [] h = absurd (omega arith)
run_first index (u ∷ us) h = grind (arith, common_steps)

-- a text that is an assignment has a token
pub assignment_has_token : (text : List ℕ) (a : SeenAssignment) → assignment_of text ≡ Some a → tokens text ≡ [] → ⊥
assignment_has_token text a h none =
    let name = after_run is_blank 0 (units text) in
    let past_name = after_run is_name_unit name.place name.units in
    let sign = after_run is_blank past_name.place past_name.units in
    elim (cases_Bool (nat_lt name.place past_name.place && begins_with_equals sign.units)) [
      | inl t ↦ grind (arith, no_piece, run_any, run_first, ltb-true, and_parts)
      | inr f ↦ search rules
    ]

pub assignment_not_empty : (text : List ℕ) (a : SeenAssignment) → assignment_of text ≡ Some a → is_empty (tokens text) ≡ false
assignment_not_empty text a h = go (tokens text) (assignment_has_token text a h)
  where
    go : (ts : List TokenAt) → (ts ≡ [] → ⊥) → is_empty ts ≡ false
    go [] some = absurd (some refl)
    go (t ∷ ts) some = refl
