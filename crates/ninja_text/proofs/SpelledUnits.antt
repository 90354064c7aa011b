-- Texts that are written unit by unit, without continuations: their units are just those, and no end or fault lies within.
use Rattle.std.proofs.lemmas.Grind.{common_steps}
use Rattle.std.proofs.Common.{◌≡◌, ℕ, ◌+◌, Bool, true, false, List, [], ◌∷◌, ◌++◌, length, refl, None, arith, ◌==◌, ◌&&◌, not, rules}
use Rattle.std.specs.List.{flat_map, list_all}
use Rattle.std.proofs.lemmas.List.{append_assoc}
use Rattle.std.proofs.lemmas.Bool.{and_parts}
use Rattle.ninja_text.specs.Units.{LineUnits, units, unit_len}
use Rattle.ninja_text.specs.declared.lexing.LineUnit.{LineUnit}
use Rattle.ninja_text.specs.declared.lexing.LineUnit.TheVariants.{Continuation, Escape, Byte}
use Rattle.ninja_text.specs.Lines.{end_from}
use Rattle.ninja_text.specs.Lexical.{first_fault}
use Rattle.ninja_text.specs.Escapes.{is_escaped}
use Rattle.ninja_text.proofs.Units.{units_byte}

-- a byte that is a unit by itself, and neither ends a line nor is a fault: none of `$`, NUL, CR, LF
abbrev pub is_plain : ℕ → Bool
is_plain b = not (b == 36) && (not (b == 0) && (not (b == 13) && not (b == 10)))

-- an escaped byte, or a plain one
abbrev pub is_sound : LineUnit → Bool
is_sound (Continuation len) = false
is_sound (Escape b) = is_escaped b
is_sound (Byte b) = is_plain b

-- the bytes of a unit that is no continuation
abbrev pub unit_text : LineUnit → List ℕ
unit_text (Continuation len) = []
unit_text (Escape b) = 36 ∷ b ∷ []
unit_text (Byte b) = b ∷ []

-- the bytes of units, one after another
abbrev pub text_of_units : LineUnits → List ℕ
text_of_units us = flat_map unit_text us

pub record Plain (b : ℕ) : Type 0 where
  pub no_dollar : (b == 36) ≡ false
  pub no_nul : (b == 0) ≡ false
  pub no_return : (b == 13) ≡ false
  pub no_feed : (b == 10) ≡ false

pub plain : (b : ℕ) → is_plain b ≡ true → Plain b
plain b h =
    grind (arith, common_steps)

-- a unit at the front is read back
unit_first : (u : LineUnit) (x : List ℕ) → is_sound u ≡ true → units (unit_text u ++ x) ≡ u ∷ units x
unit_first (Continuation len) x h = cc
unit_first (Escape b) x h =
    grind (arith, common_steps)
unit_first (Byte b) x h = units_byte b x (plain b h).no_dollar

-- they are read back, whatever follows
pub units_read : (us : LineUnits) (x : List ℕ) → list_all is_sound us ≡ true → units (text_of_units us ++ x) ≡ us ++ units x
units_read [] x h = refl
units_read (u ∷ us) x h =
    let p = and_parts (is_sound u) (list_all is_sound us) h in
    grind (arith, append_assoc, unit_first, units_read us x p.1)

-- the first end is past them
pub end_past : (us vs : LineUnits) (n : ℕ) → list_all is_sound us ≡ true → end_from n (us ++ vs) ≡ end_from (n + length (text_of_units us)) vs
end_past [] vs n h = search rules
end_past (u ∷ us) vs n h =
    let p = and_parts (is_sound u) (list_all is_sound us) h in
    grind (arith, common_steps, end_past us vs (n + unit_len u) p.1)

-- none of them is a fault
pub no_fault_in : (us : LineUnits) (n : ℕ) → list_all is_sound us ≡ true → first_fault n us ≡ None
no_fault_in [] n h = refl
no_fault_in (u ∷ us) n h =
    let p = and_parts (is_sound u) (list_all is_sound us) h in
    grind (arith, common_steps, no_fault_in us (n + unit_len u) p.1)
