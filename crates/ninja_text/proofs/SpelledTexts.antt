-- Texts put together from words, paths, spaces and signs, and what their tokens are: for crates that write Ninja files.
use Rattle.ninja_text.specs.Bytes.{Bytes}
use Rattle.std.proofs.Common.{inl, inr, ◌≡◌, ℕ, ◌+◌, Bool, true, false, List, [], ◌∷◌, ◌++◌, map, refl, sym, ap, ◌∙◌, subst, None, ◌&&◌}
use Rattle.std.specs.List.{list_all}
use Rattle.std.proofs.lemmas.List.Folds.{list_all-append}
use Rattle.std.proofs.lemmas.Grind.{flat_map-append}
use Rattle.std.proofs.lemmas.Bool.{cases_Bool, and_from, and_parts}
use Rattle.ninja_text.specs.Units.{LineUnits, unit_len}
use Rattle.ninja_text.specs.declared.lexing.LineUnit.{LineUnit}
use Rattle.ninja_text.specs.declared.lexing.LineUnit.TheVariants.{Continuation, Escape, Byte}
use Rattle.ninja_text.specs.declared.lexing.TokenKind.{TokenKind}
use Rattle.ninja_text.specs.declared.lexing.TokenKind.TheVariants.{Word, Bar, Colon}
use Rattle.ninja_text.specs.Lines.{is_comment, IsLine, text_of_line}
use Rattle.ninja_text.specs.Lexical.{lexical_fault}
use Rattle.ninja_text.specs.Tokens.{token_of, TokenAt, is_piece, goes_on, with_first_start, tokens_from, tokens, raw}
use Rattle.ninja_text.specs.Escapes.{IsWritable, escaped}
use Rattle.ninja_text.proofs.SpelledUnits.{is_sound, unit_text, text_of_units}
use Rattle.ninja_text.proofs.EscapedPaths.{path_units, path_text, path_sound, path_pieces, has_spelling}
pub use Rattle.ninja_text.proofs.EscapedPaths.{value_of_escaped}
use Rattle.ninja_text.proofs.SpelledTokens.{Yields, no_units, word_yields, space_yields, colon_yields, bar_yields, path_yields, goes_on_piece, piece_alone, piece_before}
use Rattle.ninja_text.proofs.SpelledLines.{units_are, lexical_none, is_line, text_is}

-- The text has no fault, no end and no continuation, and its tokens are seen so; at_word says whether it begins with a word.
pub record Written {X : Type 0} (view : TokenKind → Bytes → X) (at_word : Bool) (text : Bytes) (xs : List X) : Type 0 where
  units : LineUnits
  text_is : text_of_units units ≡ text
  sound : list_all is_sound units ≡ true
  begins : goes_on units ≡ at_word
  yields : Yields view units xs

-- bytes that are a word by themselves
abbrev pub is_word : Bytes → Bool
is_word [] = false
is_word (b ∷ bytes) = list_all is_piece (map Byte (b ∷ bytes)) && list_all is_sound (map Byte (b ∷ bytes))

bytes_text : (bytes : Bytes) → text_of_units (map Byte bytes) ≡ bytes
bytes_text [] = refl
bytes_text (b ∷ bytes) = simp (bytes_text bytes)

pieces_begin : (us vs : LineUnits) → (us ≡ [] → ⊥) → list_all is_piece us ≡ true → goes_on (us ++ vs) ≡ true
pieces_begin [] vs some h = absurd (some refl)
pieces_begin (u ∷ us) vs some h = goes_on_piece u (us ++ vs) (and_parts (is_piece u) (list_all is_piece us) h).0

sound_both : (us vs : LineUnits) → list_all is_sound us ≡ true → list_all is_sound vs ≡ true → list_all is_sound (us ++ vs) ≡ true
sound_both us vs p q = simp (list_all-append, is_sound, and_from)

text_both : (us vs : LineUnits) (x y : Bytes) → text_of_units us ≡ x → text_of_units vs ≡ y → text_of_units (us ++ vs) ≡ x ++ y
text_both us vs x y p q = flat_map-append unit_text us vs ∙ ap (λ t. t ++ text_of_units vs) p ∙ ap (λ t. x ++ t) q

module _ {X : Type 0} (view : TokenKind → Bytes → X) where
  -- what precedes a text: nothing more, a word, a path, a space, a sign
  pub written_none : Written view false [] []
  written_none = record { units = []; text_is = refl; sound = refl; begins = refl; yields = no_units view }

  pub written_word : (word text : Bytes) (xs : List X) → is_word word ≡ true → Written view false text xs →
      Written view true (word ++ text) (view Word word ∷ xs)
  written_word [] text xs h w = cc
  written_word (b ∷ bytes) text xs h w =
      let p = and_parts (list_all is_piece (map Byte (b ∷ bytes))) (list_all is_sound (map Byte (b ∷ bytes))) h in
      record {
        units = map Byte (b ∷ bytes) ++ w.units;
        text_is = text_both (map Byte (b ∷ bytes)) w.units (b ∷ bytes) text (bytes_text (b ∷ bytes)) w.text_is;
        sound = sound_both (map Byte (b ∷ bytes)) w.units p.1 w.sound;
        begins = pieces_begin (map Byte (b ∷ bytes)) w.units (λ e. cc) p.0;
        yields = subst (λ bs. Yields view (map Byte (b ∷ bytes) ++ w.units) (view Word bs ∷ xs)) (bytes_text (b ∷ bytes))
            (word_yields view (Byte b) (map Byte bytes) w.units xs p.0 w.begins w.yields);
      }

  pub written_path : (path text : Bytes) (xs : List X) → IsWritable path → Written view false text xs →
      Written view true (escaped path ++ text) (view Word (escaped path) ∷ xs)
  written_path path text xs writable w = record {
    units = path_units path ++ w.units;
    text_is = text_both (path_units path) w.units (escaped path) text (path_text path) w.text_is;
    sound = sound_both (path_units path) w.units (path_sound path (has_spelling path writable)) w.sound;
    begins = pieces_begin (path_units path) w.units (some path writable) (path_pieces path (has_spelling path writable));
    yields = path_yields view path w.units xs writable w.begins w.yields;
  } where
    some : (path : Bytes) → IsWritable path → path_units path ≡ [] → ⊥
    some [] writable e = writable.some refl
    some (b ∷ path) writable e = cc

  pub written_space : {at_word : Bool} (text : Bytes) (xs : List X) → Written view at_word text xs → Written view false (32 ∷ text) xs
  written_space text xs w =
      record { units = Byte 32 ∷ w.units; text_is = ap (λ t. 32 ∷ t) w.text_is; sound = w.sound; begins = refl; yields = space_yields view w.units xs w.yields }

  pub written_colon : {at_word : Bool} (text : Bytes) (xs : List X) → Written view at_word text xs → Written view false (58 ∷ text) (view Colon (58 ∷ []) ∷ xs)
  written_colon text xs w =
      record { units = Byte 58 ∷ w.units; text_is = ap (λ t. 58 ∷ t) w.text_is; sound = w.sound; begins = refl; yields = colon_yields view w.units xs w.yields }

  -- a `|` and a space after it
  pub written_bar : {at_word : Bool} (text : Bytes) (xs : List X) → Written view at_word text xs →
      Written view false (124 ∷ 32 ∷ text) (view Bar (124 ∷ []) ∷ xs)
  written_bar text xs w = record {
    units = Byte 124 ∷ Byte 32 ∷ w.units;
    text_is = ap (λ t. 124 ∷ 32 ∷ t) w.text_is;
    sound = w.sound;
    begins = refl;
    yields = bar_yields view w.units xs (space_yields view w.units xs w.yields);
  }

  -- what such a text is, by itself and as a line
  module _ {at_word : Bool} (text : Bytes) (xs : List X) (w : Written view at_word text xs) where
    pub written_tokens : map (λ t. view t.kind (raw text t)) (tokens text) ≡ xs
    written_tokens =
        ap (λ t. map (λ k. view k.kind (raw t k)) (tokens t)) (sym w.text_is)
        ∙ ap (λ us. map (λ k. view k.kind (raw (text_of_units w.units) k)) (tokens_from 0 us)) (units_are w.units w.sound)
        ∙ w.yields []

    pub written_sound : lexical_fault text ≡ None
    written_sound = ap lexical_fault (sym w.text_is) ∙ lexical_none w.units w.sound

    pub written_line : is_comment (text ++ 10 ∷ []) ≡ false → IsLine (text ++ 10 ∷ [])
    written_line said = subst (λ t. IsLine (t ++ 10 ∷ [])) w.text_is (is_line w.units w.sound (ap (λ t. is_comment (t ++ 10 ∷ [])) w.text_is ∙ said))

    pub written_text : is_comment (text ++ 10 ∷ []) ≡ false → text_of_line (text ++ 10 ∷ []) ≡ text
    written_text said = ap (λ t. text_of_line (t ++ 10 ∷ [])) (sym w.text_is) ∙ text_is w.units w.sound (ap (λ t. is_comment (t ++ 10 ∷ [])) w.text_is ∙ said) ∙
        w.text_is

-- a first token, and its index
pub record First (index : ℕ) (ts : List TokenAt) : Type 0 where
  pub token : TokenAt
  pub rest : List TokenAt
  pub are : ts ≡ token ∷ rest
  pub at : token.start ≡ index

-- the first token of what begins with a word is at its beginning
word_first : (us : LineUnits) (n : ℕ) → list_all is_sound us ≡ true → goes_on us ≡ true → First n (tokens_from n us)
word_first [] n h g = cc
word_first (u ∷ us) n h g =
    let p = and_parts (is_sound u) (list_all is_sound us) h in
    let piece : is_piece u ≡ true = piece_on u us p.0 g in
    elim (cases_Bool (goes_on us)) [
      | inr f ↦ record {
        token = token_of Word n (unit_len u);
        rest = tokens_from (n + unit_len u) us;
        are = piece_alone n u us piece f;
        at = refl;
      }
      | inl t ↦ let later = word_first us (n + unit_len u) p.1 t in
          record {
            token = record later.token { start = n };
            rest = later.rest;
            are = piece_before n u us piece t ∙
                ap (with_first_start n) later.are;
            at = refl;
          }
    ] where
      piece_on : (u : LineUnit) (us : LineUnits) → is_sound u ≡ true → goes_on (u ∷ us) ≡ true → is_piece u ≡ true
      piece_on (Continuation len) us s g = cc
      piece_on (Escape b) us s g = refl
      piece_on (Byte b) us s g = g

pub written_first : {X : Type 0} (view : TokenKind → Bytes → X) (text : Bytes) (xs : List X) → Written view true text xs → First 0 (tokens text)
written_first view text xs w =
    subst (First 0) (ap (tokens_from 0) (sym (units_are w.units w.sound)) ∙ ap tokens w.text_is) (word_first w.units 0 w.sound w.begins)
