-- The tokens of a text without lexical errors: words, `|`, `||`, `|@` and `:`.
use Rattle.std.specs.Prelude.{◌≡◌, ℕ, ◌+◌, ◌<◌, ◌≤◌, Bool, true, false, ◌==◌, ◌||◌, ◌&&◌, not, bytes_eq, if◌then◌else◌, List, [], ◌∷◌, length, map, drop, slice_range}
use Rattle.std.specs.List.{flat_map, list_any}
use Rattle.ninja_text.specs.Bytes.{Text, space, dollar, colon, vertical_bar, at_sign}
use Rattle.ninja_text.specs.Units.{unit_len, is_byte, units}
use Rattle.ninja_text.specs.declared.lexing.LineUnit.{LineUnit}
use Rattle.ninja_text.specs.declared.lexing.LineUnit.TheVariants.{Continuation, Escape, Byte}
use Rattle.ninja_text.specs.declared.lexing.TokenKind.{TokenKind}
use Rattle.ninja_text.specs.declared.lexing.TokenKind.TheVariants.{Word, Bar, DoubleBar, BarAt, Colon}

-- a token's kind, and its span in the text
pub record TokenAt : Type 0 where
  pub kind : TokenKind
  pub start : ℕ
  pub end : ℕ

abbrev pub is_word_kind : TokenKind → Bool
is_word_kind Word = true
is_word_kind Bar = false
is_word_kind DoubleBar = false
is_word_kind BarAt = false
is_word_kind Colon = false

-- whether a unit only separates tokens: a space or a continuation
abbrev pub is_blank : LineUnit → Bool
is_blank (Continuation len) = true
is_blank (Escape b) = false
is_blank (Byte b) = b == space

-- whether a unit is a piece of a word: an escape, or a byte other than space, `:` and `|`
abbrev pub is_piece : LineUnit → Bool
is_piece (Continuation len) = false
is_piece (Escape b) = true
is_piece (Byte b) = not ((b == space) || (b == colon) || (b == vertical_bar))

-- whether a word that comes before these units continues in them, after any continuations
abbrev pub goes_on : List LineUnit → Bool
goes_on [] = false
goes_on (Continuation len ∷ us) = goes_on us
goes_on (Escape b ∷ us) = true
goes_on (Byte b ∷ us) = is_piece (Byte b)

-- the tokens, with the start of the first one moved to this offset
abbrev pub with_first_start : ℕ → List TokenAt → List TokenAt
with_first_start index [] = []
with_first_start index (t ∷ ts) = record t { start = index } ∷ ts

-- the token of this kind, with this start and this length
abbrev pub token_of : TokenKind → ℕ → ℕ → TokenAt
token_of kind index len = record { kind = kind; start = index; end = index + len }

-- Adds a unit at this offset in front of the tokens of the units after it. A piece extends the word
-- that continues after it, or is a word by itself. `:` and `|` are tokens. A blank unit adds no
-- token.
abbrev pub with_unit : ℕ → LineUnit → List LineUnit → List TokenAt → List TokenAt
with_unit index u us ts =
    if is_piece u then
    (if goes_on us then with_first_start index ts
    else token_of Word index (unit_len u) ∷ ts)
    else if is_byte colon u then token_of Colon index 1 ∷ ts
    else if is_byte vertical_bar u then token_of Bar index 1 ∷ ts
    else ts

-- The tokens of units that begin at this offset. `||` and `|@` are preferred to `|`.
abbrev pub tokens_from : ℕ → List LineUnit → List TokenAt
tokens_from index [] = []
tokens_from index (u ∷ []) = with_unit index u [] []
tokens_from index (u ∷ v ∷ us) =
    if is_byte vertical_bar u then
    (if is_byte vertical_bar v then token_of DoubleBar index 2 ∷ tokens_from (index + 2) us
    else if is_byte at_sign v then token_of BarAt index 2 ∷ tokens_from (index + 2) us
    else with_unit index u (v ∷ us) (tokens_from (index + 1) (v ∷ us)))
    else with_unit index u (v ∷ us) (tokens_from (index + unit_len u) (v ∷ us))

-- all tokens of a text
abbrev pub tokens : Text → List TokenAt
tokens text = tokens_from 0 (units text)

-- the bytes of a token
abbrev pub raw : Text → TokenAt → Text
raw text t = slice_range text t.start t.end

-- the value of a unit: the byte itself, the second byte of an escape, nothing for a continuation
abbrev pub unit_value : LineUnit → Text
unit_value (Continuation len) = []
unit_value (Escape b) = b ∷ []
unit_value (Byte b) = b ∷ []

-- the value of a word or of an assignment, with escapes and continuations resolved
abbrev pub value_of : Text → Text
value_of bytes = flat_map unit_value (units bytes)

-- whether the bytes contain no `$`, so that each byte stands for itself
abbrev pub is_literal : Text → Bool
is_literal bytes = not (list_any (λ b. b == dollar) bytes)

-- the tokens of the text from this offset on, if a unit begins there
abbrev pub tokens_at : Text → ℕ → List TokenAt
tokens_at text index = tokens_from index (units (drop index text))

-- the view of a token: its kind, its span and its bytes
pub record SeenToken : Type 0 where
  pub kind : TokenKind
  pub start : ℕ
  pub end : ℕ
  pub raw : Text

abbrev pub with_raw : Text → TokenAt → SeenToken
with_raw text t = record { kind = t.kind; start = t.start; end = t.end; raw = raw text t }

-- all tokens of a text, with their bytes
abbrev pub seen_tokens : Text → List SeenToken
seen_tokens text = map (with_raw text) (tokens text)

-- The token has at least one byte and is a slice of the text: `raw` has the bytes from its start to
-- its end.
pub record IsSlice (text : Text) (t : SeenToken) : Type 0 where
  pub some : t.start < t.end
  pub within : t.end ≤ length text
  pub raw : t.raw ≡ slice_range text t.start t.end

-- No token begins before the previous one ends, and the first one does not begin before this
-- offset.
abbrev pub RiseFrom : ℕ → List SeenToken → Type 0
RiseFrom index [] = Unit {0}
RiseFrom index (t ∷ ts) = (index ≤ t.start) × RiseFrom t.end ts

-- whether the token is a word with exactly these raw bytes
abbrev pub is_keyword : Text → SeenToken → Bool
is_keyword word t = is_word_kind t.kind && bytes_eq t.raw word
