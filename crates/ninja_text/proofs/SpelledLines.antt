-- A line that is written unit by unit.
use Rattle.std.proofs.Common.{◌≡◌, ℕ, ◌+◌, true, false, List, [], ◌∷◌, ◌++◌, length, sym, ap, ◌∙◌, Some, None, arith, length-append}
use Rattle.std.specs.List.{list_all}
use Rattle.std.proofs.lemmas.List.{append-nil, take_at}
use Rattle.ninja_text.specs.Units.{LineUnits, units}
use Rattle.ninja_text.specs.Lines.{is_comment, line_end, IsLine, text_of_line}
use Rattle.ninja_text.specs.Lexical.{lexical_fault}
use Rattle.ninja_text.proofs.SpelledUnits.{is_sound, text_of_units, units_read, end_past, no_fault_in}

-- the units of such a text by itself
pub units_are : (us : LineUnits) → list_all is_sound us ≡ true → units (text_of_units us) ≡ us
units_are us sound = ap units (sym (append-nil (text_of_units us))) ∙ units_read us [] sound ∙ append-nil us

pub lexical_none : (us : LineUnits) → list_all is_sound us ≡ true → lexical_fault (text_of_units us) ≡ None
lexical_none us sound = simp (units_are, no_fault_in)

abbrev pub line_of_units : LineUnits → List ℕ
line_of_units us = text_of_units us ++ 10 ∷ []

module _ (us : LineUnits) (sound : list_all is_sound us ≡ true) (said : is_comment (line_of_units us) ≡ false) where
  ends : line_end (line_of_units us) ≡ Some (record { text_len = length (text_of_units us); line_len = length (text_of_units us) + 1 })
  ends = grind (arith, units_read, end_past, length, text_of_units, ℕ, Some)

  pub is_line : IsLine (line_of_units us)
  is_line = (
    length (text_of_units us),
    ends ∙
        ap (λ n. Some (record { text_len = length (text_of_units us); line_len = n })) (sym (length-append (text_of_units us) (10 ∷ []))),
  )

  pub text_is : text_of_line (line_of_units us) ≡ text_of_units us
  text_is = grind (arith, ends, take_at, text_of_units, length)
