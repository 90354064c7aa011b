-- The tokens of units, one after another, wherever in a text they are.
use Rattle.std.proofs.Common.{◌≡◌, ℕ, ◌+◌, true, false, List, [], ◌∷◌, ◌++◌, length, map, refl, ap, ◌∙◌, subst, arith, length-append, rules}
use Rattle.std.specs.Prelude.{slice_range}
use Rattle.std.specs.List.{list_all}
use Rattle.std.proofs.lemmas.List.{append-nil, append_assoc}
use Rattle.std.proofs.lemmas.Grind.{flat_map-append, common_steps}
use Rattle.std.proofs.lemmas.Bool.{and_parts}
pub use Rattle.ninja_text.proofs.Units.{goes_on_piece}
use Rattle.ninja_text.proofs.Lists.{same_cons}
use Rattle.ninja_text.specs.Units.{LineUnits, unit_len, is_byte}
use Rattle.ninja_text.specs.declared.lexing.LineUnit.{LineUnit}
use Rattle.ninja_text.specs.declared.lexing.LineUnit.TheVariants.{Continuation, Escape, Byte}
use Rattle.ninja_text.specs.declared.lexing.TokenKind.{TokenKind}
use Rattle.ninja_text.specs.declared.lexing.TokenKind.TheVariants.{Word, Bar, Colon}
use Rattle.ninja_text.specs.Tokens.{token_of, TokenAt, is_piece, goes_on, with_first_start, tokens_from, raw}
use Rattle.ninja_text.proofs.Units.{tokens_with, tokens_blank}
use Rattle.ninja_text.specs.Escapes.{IsWritable, escaped}
use Rattle.ninja_text.proofs.SpelledUnits.{unit_text, text_of_units}
use Rattle.ninja_text.proofs.EscapedPaths.{path_unit, path_units, path_text, path_pieces, has_spelling}

-- a piece is no continuation and no `|`
piece_len : (u : LineUnit) → is_piece u ≡ true → unit_len u ≡ length (unit_text u)
piece_len (Continuation len) h = cc
piece_len (Escape b) h = refl
piece_len (Byte b) h = refl

piece_no_bar : (u : LineUnit) → is_piece u ≡ true → is_byte 124 u ≡ false
piece_no_bar (Continuation len) h = refl
piece_no_bar (Escape b) h = refl
piece_no_bar (Byte b) h = grind (arith, common_steps)

-- a piece continues if another follows, and ends its word if none does
pub piece_alone : (n : ℕ) (u : LineUnit) (vs : LineUnits) → is_piece u ≡ true → goes_on vs ≡ false
    → tokens_from n (u ∷ vs) ≡ token_of Word n (unit_len u) ∷ tokens_from (n + unit_len u) vs
piece_alone n u vs p g = grind (arith, tokens_with, piece_no_bar)

pub piece_before : (n : ℕ) (u : LineUnit) (vs : LineUnits) → is_piece u ≡ true → goes_on vs ≡ true
    → tokens_from n (u ∷ vs) ≡ with_first_start n (tokens_from (n + unit_len u) vs)
piece_before n u vs p g = grind (arith, tokens_with, piece_no_bar)

-- a word from start up to end, and the tokens of what follows
abbrev pub word_and : ℕ → ℕ → LineUnits → List TokenAt
word_and start end vs = record { kind = Word; start = start; end = end } ∷ tokens_from end vs

-- pieces are one word, if no piece follows
pub word_token : (u : LineUnit) (us vs : LineUnits) (n : ℕ) → list_all is_piece (u ∷ us) ≡ true → goes_on vs ≡ false
    → tokens_from n (u ∷ (us ++ vs)) ≡ word_and n (n + length (text_of_units (u ∷ us))) vs
word_token u [] vs n h g =
    grind (arith, and_parts, piece_alone, piece_len, append-nil)
word_token u (w ∷ us) vs n h g =
    let p = and_parts (is_piece u) (list_all is_piece (w ∷ us)) h in
    grind (arith, common_steps, word_token w us vs (n + unit_len u) p.1 g)

-- the bytes of units between others
bytes_between : (front us vs : LineUnits) →
    slice_range (text_of_units (front ++ (us ++ vs))) (length (text_of_units front)) (length (text_of_units front) + length (text_of_units us)) ≡
    text_of_units us
bytes_between front us vs =
    grind (arith, common_steps)

module _ {X : Type 0} (view : TokenKind → List ℕ → X) where
  -- a token by its kind and its bytes
  abbrev pub viewed : List ℕ → TokenAt → X
  viewed text t = view t.kind (raw text t)

  -- These are the tokens of the units, wherever they are.
  abbrev pub Yields : LineUnits → List X → Type 0
  Yields us xs = (front : LineUnits) → map (viewed (text_of_units (front ++ us))) (tokens_from (length (text_of_units front)) us) ≡ xs

  -- the tokens past some units
  past : (front us vs : LineUnits) (xs : List X) → Yields vs xs
      → map (viewed (text_of_units (front ++ (us ++ vs)))) (tokens_from (length (text_of_units front) + length (text_of_units us)) vs) ≡ xs
  past front us vs xs later =
      grind (arith, common_steps, append_assoc front us vs, flat_map-append unit_text front us, length-append (text_of_units front) (text_of_units us))

  -- each unit, in front of units whose tokens are known
  pub no_units : Yields [] []
  no_units front = refl

  -- pieces are one word
  pub word_yields : (u : LineUnit) (us vs : LineUnits) (xs : List X) → list_all is_piece (u ∷ us) ≡ true → goes_on vs ≡ false → Yields vs xs
      → Yields (u ∷ (us ++ vs)) (view Word (text_of_units (u ∷ us)) ∷ xs)
  word_yields u us vs xs h g later front =
      let n = length (text_of_units front) in
      rw (word_token u us vs n h g, same_cons (ap (view Word) (bytes_between front (u ∷ us) vs)) (past front (u ∷ us) vs xs later))

  pub space_yields : (vs : LineUnits) (xs : List X) → Yields vs xs → Yields (Byte 32 ∷ vs) xs
  space_yields vs xs later front =
      ap (map (viewed (text_of_units (front ++ (Byte 32 ∷ vs))))) (tokens_blank (length (text_of_units front)) (Byte 32) vs refl) ∙
      past front (Byte 32 ∷ []) vs xs later

  pub colon_yields : (vs : LineUnits) (xs : List X) → Yields vs xs → Yields (Byte 58 ∷ vs) (view Colon (58 ∷ []) ∷ xs)
  colon_yields vs xs later front =
      ap (map (viewed (text_of_units (front ++ (Byte 58 ∷ vs))))) (tokens_with (length (text_of_units front)) (Byte 58) vs refl)
      ∙ same_cons (ap (view Colon) (grind (arith, common_steps))) (past front (Byte 58 ∷ []) vs xs later)

  pub bar_yields : (vs : LineUnits) (xs : List X) → Yields (Byte 32 ∷ vs) xs → Yields (Byte 124 ∷ Byte 32 ∷ vs) (view Bar (124 ∷ []) ∷ xs)
  bar_yields vs xs later front =
      same_cons (grind (arith, common_steps)) (past front (Byte 124 ∷ []) (Byte 32 ∷ vs) xs later)

  -- a path in its escaped form is one word
  pub path_yields : (path : List ℕ) (vs : LineUnits) (xs : List X) → IsWritable path → goes_on vs ≡ false → Yields vs xs
      → Yields (path_units path ++ vs) (view Word (escaped path) ∷ xs)
  path_yields [] vs xs writable g later = absurd (writable.some refl)
  path_yields (b ∷ path) vs xs writable g later =
      subst (λ word. Yields (path_units (b ∷ path) ++ vs) (view Word word ∷ xs)) (path_text (b ∷ path))
      (word_yields (path_unit b) (path_units path) vs xs (search (rules, path_pieces, has_spelling)) g later)
