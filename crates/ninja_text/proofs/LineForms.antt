-- The form of a line, by its tokens as they are read.
use Rattle.std.proofs.lemmas.Grind.{common_steps}
use Rattle.std.proofs.Common.{inl, inr, ◌≡◌, ℕ, Bool, true, false, List, [], ◌∷◌, map, refl, ap, Some, None, arith, ◌==◌, ◌&&◌, rules}
use Rattle.std.specs.Prelude.{bytes_eq, IsTrue, codes}
use Rattle.std.specs.List.{starts_with}
use Rattle.std.proofs.lemmas.Bool.{cases_Bool, eqb-true, and_parts, false≢true}
use Rattle.std.proofs.lemmas.Bool.Decides.{nat_tests}
use Rattle.std.proofs.lemmas.Simd.{map-map}
use Rattle.std.proofs.lemmas.Slice.Eq.{bytes_eq-Decides}
use Rattle.ninja_text.specs.Paths.{is_empty}
use Rattle.ninja_text.specs.Tokens.{is_word_kind, is_keyword, TokenAt, SeenToken, tokens, with_raw, seen_tokens}
use Rattle.ninja_text.specs.Symbols.{Symbol, WordSymbol, SignSymbol, symbol, symbol_of, symbols, begins_at_start, begins_with_space, after_build}
use Rattle.ninja_text.specs.declared.lexing.TokenKind.{TokenKind}
use Rattle.ninja_text.specs.declared.lexing.TokenKind.TheVariants.{Word}
use Rattle.ninja_text.proofs.Spans.{token_indented}

-- a token that is a keyword is a word of its bytes
keyword_symbol : (kind : TokenKind) (bytes word : List ℕ) → (is_word_kind kind && bytes_eq bytes word) ≡ true → symbol kind bytes ≡ WordSymbol word
keyword_symbol Word bytes word h = ap WordSymbol ((bytes_eq-Decides bytes word).0 h)
keyword_symbol other bytes word h = absurd (false≢true h)

pub keyword_is : (word : List ℕ) (t : SeenToken) → is_keyword word t ≡ true → symbol_of t ≡ WordSymbol word
keyword_is word t h = keyword_symbol t.kind t.raw word h

-- the symbols of the tokens that are read are those of the text
pub symbols_seen : (text : List ℕ) (ts : List SeenToken) → ts ≡ seen_tokens text → map symbol_of ts ≡ symbols text
symbols_seen text ts e = grind (arith, map-map)

-- if no token is read, there is none
pub none_seen : (text : List ℕ) (ts : List TokenAt) → map (with_raw text) ts ≡ [] → ts ≡ []
none_seen text [] h = refl
none_seen text (t ∷ ts) h = cc

-- if a token is read, there is one, and the tokens begin at the first byte if that one does
pub first_seen : (text : List ℕ) (head : SeenToken) (others : List SeenToken) (ts : List TokenAt) → head ∷ others ≡ map (with_raw text) ts →
    (is_empty ts ≡ false) × (begins_at_start ts ≡ (head.start == 0))
first_seen text head others [] h = cc
first_seen text head others (t ∷ ts) h = search rules

-- the tokens after the keyword, if the first token that is read is the keyword at the first byte
pub build_seen : (text : List ℕ) (head : SeenToken) (others : List SeenToken) → head ∷ others ≡ seen_tokens text → (head.start == 0) ≡ true
    → is_keyword (codes "build") head ≡ true → after_build (begins_at_start (tokens text)) (symbols text) ≡ Some (map symbol_of others)
build_seen text head others all start word =
    rw (← symbols_seen text (head ∷ others) all, (first_seen text head others (tokens text) all).1, start, keyword_is (codes "build") head word) refl

-- and none if it is not
not_built : (kind : TokenKind) (bytes : List ℕ) (at : Bool) (more : List Symbol) → (at && (is_word_kind kind && bytes_eq bytes (codes "build"))) ≡ false
    → after_build at (symbol kind bytes ∷ more) ≡ None
not_built Word bytes true more h = rw h refl
not_built Word bytes false more h = refl
not_built other bytes at more h = refl

pub not_build_seen : (text : List ℕ) (head : SeenToken) (others : List SeenToken) → head ∷ others ≡ seen_tokens text
    → ((head.start == 0) && is_keyword (codes "build") head) ≡ false
    → after_build (begins_at_start (tokens text)) (symbols text) ≡ None
not_build_seen text head others all h =
    rw (← symbols_seen text (head ∷ others) all, (first_seen text head others (tokens text) all).1)
    (simp not_built)

-- a text is indented if it starts with a space
pub starts_with_space : (text : List ℕ) → starts_with (λ a b. a == b) text (32 ∷ []) ≡ begins_with_space text
starts_with_space [] = refl
starts_with_space (b ∷ text) = grind (arith, nat_tests)

-- what comes after the keyword `build` at the first byte
pub after_keyword : (at : Bool) (more : List Symbol) → at ≡ true → after_build at (WordSymbol (codes "build") ∷ more) ≡ Some more
after_keyword at more h = rw h refl

-- a text with tokens after the keyword begins with the keyword
pub keyword_first : (at : Bool) (all more : List Symbol) → after_build at all ≡ Some more → (at ≡ true) × (all ≡ WordSymbol (codes "build") ∷ more)
keyword_first at [] more h = absurd (cc)
keyword_first at (SignSymbol k ∷ all) more h = absurd (cc)
keyword_first at (WordSymbol word ∷ all) more h = grind (arith, and_parts, bytes_eq-Decides)

-- a text whose first token is at its first byte is not indented
pub no_indent_at_token : (text : List ℕ) → IsTrue (begins_at_start (tokens text)) → begins_with_space text ≡ false
no_indent_at_token [] h = refl
no_indent_at_token (b ∷ bytes) h = elim (cases_Bool (b == 32)) [
  | inr n ↦ n
  | inl s ↦ absurd (clash bytes (tokens (32 ∷ bytes)) refl (grind (arith, common_steps)))
] where
  clash : (bytes : List ℕ) (ts : List TokenAt) → tokens (32 ∷ bytes) ≡ ts → IsTrue (begins_at_start (tokens (32 ∷ bytes))) → ⊥
  clash bytes [] e h = cc
  clash bytes (t ∷ ts) e h =
      grind (arith, eqb-true, token_indented)
