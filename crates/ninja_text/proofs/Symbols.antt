-- The walk over the tokens of a build line finds the words and parts that are there.
use Rattle.std.proofs.lemmas.Grind.{common_steps}
use Rattle.std.proofs.Common.{inl, inr, ◌≡◌, ℕ, List, [], ◌∷◌, ◌++◌, map, refl, Some, None, arith}
use Rattle.std.specs.Prelude.{Option}
use Rattle.ninja_text.specs.Tokens.{value_of}
use Rattle.ninja_text.specs.Symbols.{Symbol, WordSymbol, SignSymbol, IsPart, front_words, past_words, past_sign, part_words, past_part}
use Rattle.ninja_text.specs.declared.lexing.TokenKind.{TokenKind}

-- the words at the front, in their escaped form
abbrev pub raw_words : List Symbol → List (List ℕ)
raw_words [] = []
raw_words (WordSymbol word ∷ more) = word ∷ raw_words more
raw_words (SignSymbol sign ∷ more) = []

pub front_at : (ss : List Symbol) → ss ≡ map WordSymbol (raw_words ss) ++ past_words ss
front_at [] = refl
front_at (WordSymbol word ∷ more) = cc (front_at more)
front_at (SignSymbol sign ∷ more) = refl

pub front_meant : (ss : List Symbol) → front_words ss ≡ map value_of (raw_words ss)
front_meant [] = refl
front_meant (WordSymbol word ∷ more) = rw (front_meant more)
front_meant (SignSymbol sign ∷ more) = refl

-- the part that a sign begins, or nothing, and its words in their escaped form
abbrev pub part_symbols : TokenKind → Option (List Symbol) → List Symbol
part_symbols sign None = []
part_symbols sign (Some more) = SignSymbol sign ∷ map WordSymbol (raw_words more)

abbrev pub part_raw : Option (List Symbol) → List (List ℕ)
part_raw None = []
part_raw (Some more) = raw_words more

pub is_part : (sign : TokenKind) (o : Option (List Symbol)) → IsPart sign (part_symbols sign o) (part_raw o)
is_part sign None = inl (refl, refl)
is_part sign (Some more) = inr refl

pub part_meant : (o : Option (List Symbol)) → part_words o ≡ map value_of (part_raw o)
part_meant None = refl
part_meant (Some more) = front_meant more

pub sign_at : (sign : TokenKind) (ss more : List Symbol) → past_sign sign ss ≡ Some more → ss ≡ SignSymbol sign ∷ more
sign_at sign [] more h = absurd (cc)
sign_at sign (WordSymbol word ∷ others) more h = absurd (cc)
sign_at sign (SignSymbol kind ∷ others) more h = grind (arith, common_steps)

pub part_at : (sign : TokenKind) (ss : List Symbol) (o : Option (List Symbol)) → past_sign sign ss ≡ o → ss ≡ part_symbols sign o ++ past_part o ss
part_at sign ss None h = refl
part_at sign ss (Some more) h = grind (arith, sign_at, front_at)
