-- What begins at an offset of a text: a token, a word or a `|`.
use Rattle.std.specs.Prelude.{◌≡◌, ℕ, ◌+◌, ◌<◌, true, false, List, ◌∷◌, length, drop}
use Rattle.ninja_text.specs.Bytes.{vertical_bar}
use Rattle.ninja_text.specs.Units.{units}
use Rattle.ninja_text.specs.Tokens.{is_blank, is_piece, tokens_at}
use Rattle.ninja_text.specs.declared.lexing.LineUnit.{LineUnit}
use Rattle.ninja_text.specs.declared.lexing.LineUnit.TheVariants.{Byte}
use Rattle.ninja_text.specs.declared.lexing.TokenKind.{TokenKind}

-- A unit with this property begins at this offset.
abbrev pub BeginsUnit : (LineUnit → Type 0) → List ℕ → ℕ → Type 0
BeginsUnit P text index =
    (u : LineUnit) × (us : List LineUnit) × (units (drop index text) ≡ u ∷ us) × P u

-- A token begins at this offset, unless the text ends there.
abbrev pub BeginsToken : List ℕ → ℕ → Type 0
BeginsToken text index = index < length text → BeginsUnit (λ u. is_blank u ≡ false) text index

-- A piece of a word begins at this offset.
abbrev pub BeginsPiece : List ℕ → ℕ → Type 0
BeginsPiece text index = BeginsUnit (λ u. is_piece u ≡ true) text index

-- A `|` begins at this offset.
abbrev pub BeginsBar : List ℕ → ℕ → Type 0
BeginsBar text index =
    units (drop index text) ≡ Byte vertical_bar ∷ units (drop (index + 1) text)

-- The first token from the offset `start` on is this one. It begins there, and the other tokens
-- follow from its end on.
abbrev pub IsFirstToken : List ℕ → ℕ → TokenKind → ℕ → Type 0
IsFirstToken text start kind end =
    tokens_at text start ≡ record { kind = kind; start = start; end = end } ∷ tokens_at text end
