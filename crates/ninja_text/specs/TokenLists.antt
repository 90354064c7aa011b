-- The tokens of a text as a relation: each is the longest that fits, and only spaces and
-- continuations come before, between and after them.
use Rattle.std.specs.Prelude.{◌≡◌, ℕ, ◌+◌, Bool, true, false, ◌&&◌, if◌then◌else◌, List, [], ◌∷◌, ◌++◌}
use Rattle.std.specs.List.{AllByRecursion}
use Rattle.ninja_text.specs.Bytes.{Text, colon, vertical_bar, at_sign}
use Rattle.ninja_text.specs.Units.{unit_len, is_byte, is_continuation, units}
use Rattle.ninja_text.specs.Tokens.{TokenAt, is_blank, is_piece, goes_on}
use Rattle.ninja_text.specs.declared.lexing.LineUnit.{LineUnit}
use Rattle.ninja_text.specs.declared.lexing.LineUnit.TheVariants.{Byte}
use Rattle.ninja_text.specs.declared.lexing.TokenKind.{TokenKind}
use Rattle.ninja_text.specs.declared.lexing.TokenKind.TheVariants.{Word, Bar, DoubleBar, BarAt, Colon}

-- the number of bytes of units
abbrev pub total_len : List LineUnit → ℕ
total_len [] = 0
total_len (u ∷ us) = unit_len u + total_len us

-- Whether exactly these units may complete a word: pieces and continuations, with a piece at the
-- end. If there are no units, `may_end` decides.
abbrev pub may_follow : Bool → List LineUnit → Bool
may_follow may_end [] = may_end
may_follow may_end (u ∷ us) =
    if is_piece u then may_follow true us else is_continuation u && may_follow false us

-- whether units are a word: pieces, with any continuations between them
abbrev pub is_word : List LineUnit → Bool
is_word [] = false
is_word (u ∷ us) = is_piece u && may_follow true us

abbrev pub begins_with : ℕ → List LineUnit → Bool
begins_with byte [] = false
begins_with byte (u ∷ us) = is_byte byte u

-- The units are a token of this kind, the longest that fits if the units `after` follow.
abbrev pub IsToken : TokenKind → List LineUnit → List LineUnit → Type 0
IsToken Word us after = (is_word us ≡ true) × (goes_on after ≡ false)
IsToken Bar us after =
    (us ≡ Byte vertical_bar ∷ [])
    × (begins_with vertical_bar after ≡ false) × (begins_with at_sign after ≡ false)
IsToken DoubleBar us after = us ≡ Byte vertical_bar ∷ Byte vertical_bar ∷ []
IsToken BarAt us after = us ≡ Byte vertical_bar ∷ Byte at_sign ∷ []
IsToken Colon us after = us ≡ Byte colon ∷ []

abbrev pub AreBlank : List LineUnit → Type 0
AreBlank us = AllByRecursion (λ u. is_blank u ≡ true) us

-- The units, which begin at this offset, are blanks, then this token, then the units `after`.
pub record BeginsWithToken (index : ℕ) (us : List LineUnit) (t : TokenAt) (after : List LineUnit)
    : Type 0 where
  pub gap : List LineUnit
  pub own : List LineUnit
  pub whole : us ≡ gap ++ (own ++ after)
  pub blank : AreBlank gap
  pub start : t.start ≡ index + total_len gap
  pub end : t.end ≡ t.start + total_len own
  pub token : IsToken t.kind own after

-- The units, which begin at this offset, are these tokens, with only blanks before, between and
-- after them.
abbrev pub LexesAs : ℕ → List LineUnit → List TokenAt → Type 0
LexesAs index us [] = AreBlank us
LexesAs index us (t ∷ ts) =
    (after : List LineUnit) × BeginsWithToken index us t after × LexesAs t.end after ts

-- The text consists of these tokens, with only spaces and continuations before, between and after
-- them.
abbrev pub AreTokens : Text → List TokenAt → Type 0
AreTokens text ts = LexesAs 0 (units text) ts
