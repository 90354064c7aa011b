-- How the values that are read from a line relate to its bytes (Ninja 1.11 manual, "Lexical
-- syntax").
use Rattle.std.specs.Prelude.{◌≡◌, ℕ, Bool, false, not, ◌||◌, ◌==◌, IsTrue, [], ◌∷◌, ◌++◌, None}
use Rattle.ninja_text.specs.Bytes.{Byte, Text, nul, line_feed, carriage_return, space, dollar}
use Rattle.ninja_text.specs.declared.lexing.TokenKind.TheVariants.{Word}
use Rattle.ninja_text.specs.Lines.{is_comment, IsLine, text_of_line}
use Rattle.ninja_text.specs.Lexical.{lexical_fault}
use Rattle.ninja_text.specs.Tokens.{SeenToken, value_of}
use Rattle.ninja_text.specs.Assignments.{SeenAssignment}
use Rattle.ninja_text.specs.Escapes.{is_escaped, IsGap, Spells}

-- A complete line that is not a comment and has no lexical error.
pub record IsFaultless (line : Text) : Type 0 where
  pub is_line : IsLine line
  pub no_comment : is_comment line ≡ false
  pub no_fault : lexical_fault (text_of_line line) ≡ None

-- If the token is a word, its raw bytes stand for its value.
abbrev pub IsReadAsSpelled : SeenToken → Type 0
IsReadAsSpelled t = t.kind ≡ Word → Spells t.raw (value_of t.raw)

-- whether a byte stands for itself in a value: all bytes do except `$`, NUL, CR and LF
abbrev pub is_value_byte : ℕ → Bool
is_value_byte b = not (b == dollar || (b == nul || (b == carriage_return || b == line_feed)))

-- A piece of a value stands for this byte: it is the byte itself, or `$` and a `$`, space or `:`.
abbrev pub IsValuePiece : Text → Byte → Type 0
IsValuePiece [] value = ⊥
IsValuePiece (b ∷ []) value = (b ≡ value) × IsTrue (is_value_byte b)
IsValuePiece (d ∷ b ∷ []) value = (d ≡ dollar) × (b ≡ value) × IsTrue (is_escaped b)
IsValuePiece (d ∷ b ∷ c ∷ more) value = ⊥

-- The raw text of a value stands for these bytes: it has a piece for each byte, a gap before each
-- piece, and a gap at the end. The spaces after a continuation belong to the gap, so a space is a
-- piece only if the gap before it is empty.
abbrev pub SpellsValue : Text → Text → Type 0
SpellsValue raw [] = IsGap raw
SpellsValue raw (b ∷ bs) = (gap : Text) × (piece : Text) × (rest : Text)
    × IsGap gap × IsValuePiece piece b × (piece ≡ space ∷ [] → gap ≡ [])
    × SpellsValue rest bs × (raw ≡ gap ++ (piece ++ rest))

-- The raw bytes of the assignment's value stand for its value.
abbrev pub IsValueAsSpelled : SeenAssignment → Type 0
IsValueAsSpelled a = SpellsValue a.raw_value (value_of a.raw_value)
