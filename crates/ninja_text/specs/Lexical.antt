-- The lexical errors of a line's text (Ninja 1.11 manual, "Lexical syntax"). There are no variables
-- here, so a variable is an error.
use Rattle.std.specs.Prelude.{ℕ, ◌+◌, Bool, ◌==◌, ◌||◌, if◌then◌else◌, List, [], ◌∷◌, Option, Some, None}
use Rattle.ninja_text.specs.Bytes.{Text, nul, carriage_return, space, dollar, colon, hyphen, underscore, opening_brace}
use Rattle.ninja_text.specs.Units.{unit_len, units, is_digit, is_letter}
use Rattle.ninja_text.specs.declared.lexing.LineUnit.{LineUnit}
use Rattle.ninja_text.specs.declared.lexing.LineUnit.TheVariants.{Continuation, Escape, Byte}
use Rattle.ninja_text.specs.declared.fault.LexFault.{LexFault}
use Rattle.ninja_text.specs.declared.fault.LexFault.TheVariants.{Nul, LoneCr, Variable, BadEscape}

-- whether `$` before this byte begins a variable: a letter, a digit, `_`, `-`, or the brace of
-- `${name}`
abbrev pub begins_variable : ℕ → Bool
begins_variable b =
    (b == opening_brace) || is_letter b || is_digit b || (b == underscore) || (b == hyphen)

-- whether `$` escapes this byte: the escapes are `$$`, `$ ` and `$:`
abbrev pub is_escapable : ℕ → Bool
is_escapable b = (b == dollar) || (b == space) || (b == colon)

-- the error of a unit at this offset, if it has one
abbrev pub unit_fault : ℕ → LineUnit → Option LexFault
unit_fault index (Continuation len) = None
unit_fault index (Escape b) =
    if begins_variable b then Some (Variable index)
    else if is_escapable b then None
    else Some (BadEscape index)
unit_fault index (Byte b) =
    if b == nul then Some (Nul index)
    else if b == carriage_return then Some (LoneCr index)
    else None

-- the earlier error, if there is one, and otherwise the later one
abbrev pub earlier : Option LexFault → Option LexFault → Option LexFault
earlier (Some fault) later = Some fault
earlier None later = later

-- the first error of units that begin at this offset
abbrev pub first_fault : ℕ → List LineUnit → Option LexFault
first_fault index [] = None
first_fault index (u ∷ us) = earlier (unit_fault index u) (first_fault (index + unit_len u) us)

-- the first error of a text
abbrev pub lexical_fault : Text → Option LexFault
lexical_fault text = first_fault 0 (units text)
