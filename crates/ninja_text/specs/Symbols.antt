-- The tokens of a line as symbols of a grammar (Ninja 1.11 manual, "Build statements").
use Rattle.std.specs.Prelude.{◌≡◌, Bool, true, false, ◌==◌, ◌&&◌, bytes_eq, if◌then◌else◌, List, [], ◌∷◌, map, codes, ◌⊎◌, Option, Some, None}
use Rattle.ninja_text.specs.Bytes.{Text, space}
use Rattle.ninja_text.specs.Tokens.{TokenAt, SeenToken, tokens, raw, value_of}
use Rattle.ninja_text.specs.declared.lexing.TokenKind.{TokenKind}
use Rattle.ninja_text.specs.declared.lexing.TokenKind.TheVariants.{Word, Bar, DoubleBar, BarAt, Colon}

-- a token of a line: a word with its raw bytes, or one of the signs `|`, `||`, `|@` and `:`
pub data Symbol : Type 0 where
  WordSymbol : Text → Symbol
  SignSymbol : TokenKind → Symbol

-- the symbol of a token of this kind and with these bytes
abbrev pub symbol : TokenKind → Text → Symbol
symbol Word bytes = WordSymbol bytes
symbol Bar bytes = SignSymbol Bar
symbol DoubleBar bytes = SignSymbol DoubleBar
symbol BarAt bytes = SignSymbol BarAt
symbol Colon bytes = SignSymbol Colon

-- the symbol of a token
abbrev pub symbol_of : SeenToken → Symbol
symbol_of t = symbol t.kind t.raw

-- the symbols of a line's tokens
abbrev pub symbols : Text → List Symbol
symbols text = map (λ t. symbol t.kind (raw text t)) (tokens text)

-- whether there is a token, and the first one begins at the line's first byte
abbrev pub begins_at_start : List TokenAt → Bool
begins_at_start [] = false
begins_at_start (t ∷ ts) = t.start == 0

-- whether the line is indented: its first byte is a space
abbrev pub begins_with_space : Text → Bool
begins_with_space [] = false
begins_with_space (b ∷ bytes) = b == space

-- the tokens after the keyword `build`, if the line begins with it at its first byte; None for any
-- other line
abbrev pub after_build : Bool → List Symbol → Option (List Symbol)
after_build at_start [] = None
after_build at_start (WordSymbol word ∷ more) =
    if at_start && bytes_eq word (codes "build") then Some more else None
after_build at_start (SignSymbol other ∷ more) = None

-- A part of a build line: it is missing, or it has this sign and any number of words.
abbrev pub IsPart : TokenKind → List Symbol → List Text → Type 0
IsPart sign part words =
    ((part ≡ []) × (words ≡ [])) ⊎ (part ≡ SignSymbol sign ∷ map WordSymbol words)

-- ---- the parts of a build line, from left to right

-- the values of the words at the front
abbrev pub front_words : List Symbol → List Text
front_words [] = []
front_words (WordSymbol word ∷ more) = value_of word ∷ front_words more
front_words (SignSymbol sign ∷ more) = []

-- the symbols after the words at the front
abbrev pub past_words : List Symbol → List Symbol
past_words [] = []
past_words (WordSymbol word ∷ more) = past_words more
past_words (SignSymbol sign ∷ more) = SignSymbol sign ∷ more

-- whether both are the same sign
abbrev pub is_sign : TokenKind → TokenKind → Bool
is_sign Bar Bar = true
is_sign DoubleBar DoubleBar = true
is_sign BarAt BarAt = true
is_sign Colon Colon = true
is_sign sign kind = false

-- the symbols after this sign at the front; None if the sign is not there
abbrev pub past_sign : TokenKind → List Symbol → Option (List Symbol)
past_sign sign [] = None
past_sign sign (WordSymbol word ∷ more) = None
past_sign sign (SignSymbol kind ∷ more) = if is_sign sign kind then Some more else None

-- the values of the words after a sign; no words if the sign is not there
abbrev pub part_words : Option (List Symbol) → List Text
part_words (Some more) = front_words more
part_words None = []

-- the symbols after such a part
abbrev pub past_part : Option (List Symbol) → List Symbol → List Symbol
past_part (Some more) symbols = past_words more
past_part None symbols = symbols

-- the values of the words in the part that begins with this sign
abbrev pub words_of_part : TokenKind → List Symbol → List Text
words_of_part sign symbols = part_words (past_sign sign symbols)

-- the symbols after this part
abbrev pub symbols_past_part : TokenKind → List Symbol → List Symbol
symbols_past_part sign symbols = past_part (past_sign sign symbols) symbols

-- The word at the front is taken, or there is no word and nothing is taken.
abbrev pub WordTaken : List Symbol → Option SeenToken → List Symbol → Type 0
WordTaken old (Some token) new = old ≡ WordSymbol token.raw ∷ new
WordTaken old None new = (front_words old ≡ []) × (past_words old ≡ old) × (new ≡ old)

-- The sign at the front is taken, or it is not there and nothing is taken.
abbrev pub SignTaken : TokenKind → List Symbol → Bool → List Symbol → Type 0
SignTaken sign old true new = past_sign sign old ≡ Some new
SignTaken sign old false new = (past_sign sign old ≡ None) × (new ≡ old)
