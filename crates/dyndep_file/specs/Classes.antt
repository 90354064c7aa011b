-- The kinds of lines of a dyndep file (Ninja 1.11 manual, "Dyndep file reference" and "Lexical
-- syntax").
use Rattle.std.specs.Prelude.{◌≡◌, ℕ, Bool, true, false, ◌==◌, ◌&&◌, ◌||◌, not, nat_lt, IsTrue, List, [], ◌∷◌, ◌++◌, length, map, codes, None}
use Rattle.ninja_text.specs.Units.{is_digit}
use Rattle.ninja_text.specs.Bytes.{Text, PathText, dot, digit_zero, digit_one}
use Rattle.ninja_text.specs.Lexical.{lexical_fault}
use Rattle.ninja_text.specs.Tokens.{tokens, value_of}
use Rattle.ninja_text.specs.declared.lexing.TokenKind.TheVariants.{Bar, Colon}
use Rattle.ninja_text.specs.Symbols.{Symbol, WordSymbol, SignSymbol, symbols, begins_at_start, begins_with_space, IsPart}
use Rattle.ninja_text.specs.Assignments.{Assigns}

-- The kind of a line: a comment, a blank line, the version line, a build line with its output, its
-- implicit outputs and its implicit inputs, or a binding, which turns `restat` on or off.
pub data DyndepClass : Type 0 where
  Comment : DyndepClass
  Blank : DyndepClass
  Version : DyndepClass
  Build : PathText → List PathText → List PathText → DyndepClass
  Binding : Bool → DyndepClass

-- The line is `build output | outputs : dyndep | inputs`, and the keyword begins at the first byte.
-- The words are given by their raw bytes. A `|` may be missing together with its words.
abbrev pub IsBuild : Text → PathText → List PathText → List PathText → Type 0
IsBuild text output outputs inputs =
    (before after : List Symbol) × IsPart Bar before outputs × IsPart Bar after inputs
    × IsTrue (begins_at_start (tokens text))
    × (symbols text ≡ WordSymbol (codes "build") ∷ WordSymbol output ∷ before
    ++ SignSymbol Colon ∷ WordSymbol (codes "dyndep") ∷ after)

-- whether a number ends before these bytes: no digit follows, and no `.` unless dots are allowed
abbrev pub ends_number : Bool → Text → Bool
ends_number dots [] = true
ends_number dots (b ∷ bytes) = not (is_digit b) && (dots || not (b == dot))

-- whether Ninja 1.11 accepts this version: `1` with no digit or `.` after it, or `1.0` with no
-- digit after it
abbrev pub is_version_one : Text → Bool
is_version_one [] = false
is_version_one (a ∷ rest) = (a == digit_one) && (ends_number false rest || dot_zero rest) where
  dot_zero : Text → Bool
  dot_zero [] = false
  dot_zero (a ∷ []) = false
  dot_zero (a ∷ b ∷ rest) = (a == dot) && (b == digit_zero) && ends_number true rest

-- A line has this class, given its text without the end, and whether it is a comment. A comment may
-- contain any bytes; every other line has no lexical error. A blank line has no token. A version
-- line assigns an accepted version, and the name begins at the first byte. The paths of a build
-- line are the values of its words. A binding is an indented assignment to `restat`, and turns it
-- on if the value is not empty.
abbrev pub IsDyndepLine : Text → Bool → DyndepClass → Type 0
IsDyndepLine text comment Comment = comment ≡ true
IsDyndepLine text comment Blank =
    (comment ≡ false) × (lexical_fault text ≡ None) × (tokens text ≡ [])
IsDyndepLine text comment Version =
    (comment ≡ false) × (lexical_fault text ≡ None)
    × (value : Text) × Assigns text (codes "ninja_dyndep_version") 0 value
    × IsTrue (is_version_one value)
IsDyndepLine text comment (Build output outputs inputs) =
    (comment ≡ false) × (lexical_fault text ≡ None)
    × (raw_output : Text) × (raw_outputs raw_inputs : List Text)
    × IsBuild text raw_output raw_outputs raw_inputs
    × (output ≡ value_of raw_output) × (outputs ≡ map value_of raw_outputs)
    × (inputs ≡ map value_of raw_inputs)
IsDyndepLine text comment (Binding flag) =
    (comment ≡ false) × (lexical_fault text ≡ None) × IsTrue (begins_with_space text)
    × (start : ℕ) × (value : Text) × Assigns text (codes "restat") start value
    × (flag ≡ nat_lt 0 (length value))
