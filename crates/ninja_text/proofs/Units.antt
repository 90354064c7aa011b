-- The units of a text and their tokens, by the first unit.
use Rattle.std.proofs.lemmas.Grind.{common_steps}
use Rattle.ninja_text.specs.Bytes.{Bytes}
use Rattle.std.proofs.Common.{get_or, ◌≤◌, inl, inr, suc, subst, ◌≡◌, ℕ, ◌+◌, List, [], ◌∷◌, length, drop, refl, sym, ap, ◌∙◌, false, ◌==◌, arith, map, None, ◌<◌, Bool, true, not, rules}
use Rattle.std.specs.List.{flat_map, list_any}
use Rattle.std.proofs.lemmas.Bool.{cases_Bool, eqb-true, or_parts}
use Rattle.ninja_text.specs.Units.{LineUnits, units, with_continuation, unit_len, is_byte, is_continuation}
use Rattle.ninja_text.specs.inner.Runs.{spaces_at}
use Rattle.ninja_text.specs.declared.lexing.LineUnit.{LineUnit}
use Rattle.ninja_text.specs.declared.lexing.LineUnit.TheVariants.{Continuation, Escape, Byte}
use Rattle.ninja_text.specs.Lines.{begins_with_line_feed, end_from}
use Rattle.ninja_text.specs.Tokens.{token_of, unit_value, value_of, TokenAt, is_blank, is_piece, goes_on, with_first_start, with_unit, tokens_from, tokens_at}
use Rattle.ninja_text.specs.Lexical.{first_fault, lexical_fault}
use Rattle.ninja_text.specs.inner.PlainTexts.{is_dollar, is_suspect, is_plain_piece}
use Rattle.std.specs.Prelude.{if◌then◌else◌}
use Rattle.ninja_text.specs.declared.lexing.TokenKind.TheVariants.{Word, Bar, DoubleBar, BarAt, Colon}
use Rattle.ninja_text.specs.inner.TokenStarts.{BeginsPiece, BeginsBar}

-- ---- the first unit of a text, by its first bytes

pub units_byte : (b : ℕ) (bytes : Bytes) → (b == 36) ≡ false → units (b ∷ bytes) ≡ Byte b ∷ units bytes
units_byte b [] h = refl
units_byte b (c ∷ []) h = rw h refl
units_byte b (c ∷ d ∷ bytes) h = rw h refl

-- if there is no `$`, each byte is a unit by itself
pub units_bytes : (bytes : Bytes) → list_any is_dollar bytes ≡ false → units bytes ≡ map Byte bytes
units_bytes [] none = refl
units_bytes (b ∷ bytes) none =
    let p = or_parts (is_dollar b) (list_any is_dollar bytes) none in
    grind (arith, common_steps, units_bytes bytes p.1)

-- and it stands for itself
pub bytes_meant : (bytes : Bytes) → flat_map unit_value (map Byte bytes) ≡ bytes
bytes_meant [] = refl
bytes_meant (b ∷ bytes) = rw (bytes_meant bytes)

-- so its value is itself
pub plain_value : (bytes : Bytes) → list_any is_dollar bytes ≡ false → value_of bytes ≡ bytes
plain_value bytes none = simp (units_bytes, bytes_meant)

-- a text without a suspect byte has no `$`
pub no_dollar : (bytes : Bytes) → list_any is_suspect bytes ≡ false → list_any is_dollar bytes ≡ false
no_dollar [] none = refl
no_dollar (b ∷ bytes) none =
    let p = or_parts (is_suspect b) (list_any is_suspect bytes) none in
    grind (arith, common_steps, no_dollar bytes p.1)

-- nor is any of its bytes a fault
pub no_fault_among : (index : ℕ) (bytes : Bytes) → list_any is_suspect bytes ≡ false → first_fault index (map Byte bytes) ≡ None
no_fault_among index [] none = refl
no_fault_among index (b ∷ bytes) none =
    let p = or_parts (is_suspect b) (list_any is_suspect bytes) none in
    grind (arith, common_steps, no_fault_among (index + 1) bytes p.1)

-- so it has no lexical fault
pub no_suspect : (bytes : Bytes) → list_any is_suspect bytes ≡ false → lexical_fault bytes ≡ None
no_suspect bytes none = simp (units_bytes, no_dollar, no_fault_among)

pub units_feed : (bytes : Bytes) → units (36 ∷ 10 ∷ bytes) ≡ with_continuation 2 (units bytes)
units_feed [] = refl
units_feed (c ∷ bytes) = refl

pub units_pair : (b : ℕ) (bytes : Bytes) → (b == 10) ≡ false → (b == 13) ≡ false → units (36 ∷ b ∷ bytes) ≡ Escape b ∷ units bytes
units_pair b [] feed return = rw feed refl
units_pair b (c ∷ bytes) feed return = rw (feed, return) refl

pub units_return : (b : ℕ) (bytes : Bytes) → (b == 10) ≡ false → units (36 ∷ 13 ∷ b ∷ bytes) ≡ Escape 13 ∷ units (b ∷ bytes)
units_return b bytes feed = rw feed refl

-- a continuation comes first, however many spaces it takes
continued_begins : (len : ℕ) (us : LineUnits) → begins_with_line_feed (with_continuation len us) ≡ false
continued_begins len [] = refl
continued_begins len (Byte b ∷ us) = grind (arith, common_steps, continued_begins (len + 1) us)
continued_begins len (Escape b ∷ us) = refl
continued_begins len (Continuation more ∷ us) = refl

escape_begins_at : (c : ℕ) (bytes : Bytes) → (c == 10) ≡ false → begins_with_line_feed (units (36 ∷ c ∷ bytes)) ≡ false
escape_begins_at c [] f = rw f refl
escape_begins_at c (d ∷ bytes) f = search (rules, continued_begins)

escape_begins : (bytes : Bytes) → begins_with_line_feed (units (36 ∷ bytes)) ≡ false
escape_begins [] = refl
escape_begins (c ∷ bytes) = grind (arith, eqb-true, units_feed, continued_begins, escape_begins_at)

-- only an LF is a unit that is an LF
pub units_begin : (b : ℕ) (bytes : Bytes) → (b == 10) ≡ false → begins_with_line_feed (units (b ∷ bytes)) ≡ false
units_begin b bytes h = grind (arith, eqb-true, escape_begins, units_byte)

-- the spaces of a continuation hide no end
pub end_continued : (n len : ℕ) (us : LineUnits) → end_from n (with_continuation len us) ≡ end_from (n + len) us
end_continued n len [] = refl
end_continued n len (Byte b ∷ us) = elim (cases_Bool (b == 32)) [
  | inl h ↦ let e : b ≡ 32 = eqb-true b 32 h in
      rw e (grind (arith, common_steps, end_continued n (len + 1) us))
  | inr h ↦ rw h refl
]
end_continued n len (Escape b ∷ us) = refl
end_continued n len (Continuation more ∷ us) = refl

-- two continuations are two units
continued_twice : (len more : ℕ) (us : LineUnits) → with_continuation len (with_continuation more us) ≡ Continuation len ∷ with_continuation more us
continued_twice len more [] = refl
continued_twice len more (Byte b ∷ us) = grind (arith, common_steps, continued_twice len (more + 1) us)
continued_twice len more (Escape b ∷ us) = refl
continued_twice len more (Continuation k ∷ us) = refl

continued_at_pair : (len c : ℕ) (bytes : Bytes) → (c == 10) ≡ false →
    with_continuation len (units (36 ∷ c ∷ bytes)) ≡ Continuation len ∷ units (36 ∷ c ∷ bytes)
continued_at_pair len c [] f = rw f refl
continued_at_pair len c (d ∷ bytes) f = search (rules, continued_twice, len)

continued_at_dollar : (len : ℕ) (bytes : Bytes) → with_continuation len (units (36 ∷ bytes)) ≡ Continuation len ∷ units (36 ∷ bytes)
continued_at_dollar len [] = refl
continued_at_dollar len (c ∷ bytes) = grind (arith, len, eqb-true, units_feed, continued_twice, continued_at_pair)

continued_stops : (len b : ℕ) (bytes : Bytes) → (b == 32) ≡ false → with_continuation len (units (b ∷ bytes)) ≡ Continuation len ∷ units (b ∷ bytes)
continued_stops len b bytes s = grind (arith, len, eqb-true, continued_at_dollar, units_byte)

same_continuation : {k j : ℕ} {us vs : LineUnits} → k ≡ j → us ≡ vs → ◌≡◌ {A = LineUnits} (Continuation k ∷ us) (Continuation j ∷ vs)
same_continuation p q = rw (p, q) refl

-- a continuation takes the spaces at the front of what follows
pub continued_spaces : (len : ℕ) (bytes : Bytes) →
    with_continuation len (units bytes) ≡ Continuation (len + spaces_at bytes) ∷ units (drop (spaces_at bytes) bytes)
continued_spaces len [] = grind (arith, common_steps)
continued_spaces len (b ∷ bytes) = grind (arith, len, eqb-true, units_byte, pushed, continued_stops, continued_spaces (len + 1) bytes) where
  pushed : Continuation (len + 1 + spaces_at bytes) ∷ units (drop (spaces_at bytes) bytes) ≡
      Continuation (len + (1 + spaces_at bytes)) ∷ units (drop (1 + spaces_at bytes) (32 ∷ bytes))
  pushed = grind (arith, common_steps)

-- `$` LF at the front
pub continuation_at : (bytes : Bytes) (n : ℕ) → 2 ≤ length bytes → get_or bytes 0 0 ≡ 36 → get_or bytes 1 0 ≡ 10 → n ≡ spaces_at (drop 2 bytes)
    → units bytes ≡ Continuation (2 + n) ∷ units (drop (2 + n) bytes)
continuation_at [] n long first second is = absurd (omega arith)
continuation_at (a ∷ []) n long first second is = absurd (omega arith)
continuation_at (a ∷ b ∷ rest) n long first second is =
    subst (λ x. units (x ∷ b ∷ rest) ≡ Continuation (2 + n) ∷ units (drop (2 + n) (x ∷ b ∷ rest))) (sym first)
    (subst (λ x. units (36 ∷ x ∷ rest) ≡ Continuation (2 + n) ∷ units (drop (2 + n) (36 ∷ x ∷ rest))) (sym second)
    (units_feed rest ∙ continued_spaces 2 rest
    ∙ same_continuation (omega (arith, is))
    (ap (λ k. units (drop k rest)) (sym is) ∙ ap (λ k. units (drop k (36 ∷ 10 ∷ rest))) {x = suc (suc n)} {y = 2 + n} (omega arith))))

-- `$` CR LF at the front
pub return_continuation_at : (bytes : Bytes) (n : ℕ) → 3 ≤ length bytes → get_or bytes 0 0 ≡ 36 → get_or bytes 1 0 ≡ 13 → get_or bytes 2 0 ≡ 10 →
    n ≡ spaces_at (drop 3 bytes)
    → units bytes ≡ Continuation (3 + n) ∷ units (drop (3 + n) bytes)
return_continuation_at [] n long first second third is = absurd (omega arith)
return_continuation_at (a ∷ []) n long first second third is = absurd (omega arith)
return_continuation_at (a ∷ b ∷ []) n long first second third is = absurd (omega arith)
return_continuation_at (a ∷ b ∷ c ∷ rest) n long first second third is =
    subst (λ x. units (x ∷ b ∷ c ∷ rest) ≡ Continuation (3 + n) ∷ units (drop (3 + n) (x ∷ b ∷ c ∷ rest))) (sym first)
    (subst (λ x. units (36 ∷ x ∷ c ∷ rest) ≡ Continuation (3 + n) ∷ units (drop (3 + n) (36 ∷ x ∷ c ∷ rest))) (sym second)
    (subst (λ x. units (36 ∷ 13 ∷ x ∷ rest) ≡ Continuation (3 + n) ∷ units (drop (3 + n) (36 ∷ 13 ∷ x ∷ rest))) (sym third)
    (continued_spaces 3 rest
    ∙ same_continuation (omega (arith, is))
    (ap (λ k. units (drop k rest)) (sym is) ∙ ap (λ k. units (drop k (36 ∷ 13 ∷ 10 ∷ rest))) {x = suc (suc (suc n))} {y = 3 + n} (omega arith)))))

-- ---- the tokens of units, by the first unit

-- all but a bar add to the tokens of what follows
pub tokens_with : (s : ℕ) (u : LineUnit) (us : LineUnits) → is_byte 124 u ≡ false →
    tokens_from s (u ∷ us) ≡ with_unit s u us (tokens_from (s + unit_len u) us)
tokens_with s u [] h = refl
tokens_with s u (v ∷ us) h = rw h refl

-- a space or a continuation adds none
pub tokens_blank : (s : ℕ) (u : LineUnit) (us : LineUnits) → is_blank u ≡ true → tokens_from s (u ∷ us) ≡ tokens_from (s + unit_len u) us
tokens_blank s (Continuation len) us h = tokens_with s (Continuation len) us refl
tokens_blank s (Escape b) us h = cc
tokens_blank s (Byte b) us h = grind (arith, eqb-true, tokens_with)

tokens_colon : (s : ℕ) (u : LineUnit) (us : LineUnits) → is_byte 58 u ≡ true →
    tokens_from s (u ∷ us) ≡ token_of Colon s 1 ∷ tokens_from (s + 1) us
tokens_colon s (Continuation len) us h = cc
tokens_colon s (Escape b) us h = cc
tokens_colon s (Byte b) us h =
    grind (arith, eqb-true, tokens_with)

-- a piece begins a word, or is one
pub tokens_piece : (s : ℕ) (u : LineUnit) (us : LineUnits) → is_piece u ≡ true
    → tokens_from s (u ∷ us) ≡
    (if goes_on us then with_first_start s (tokens_from (s + unit_len u) us) else
    (token_of Word s (unit_len u) ∷ tokens_from (s + unit_len u) us))
tokens_piece s (Continuation len) us h = cc
tokens_piece s (Escape b) us h = tokens_with s (Escape b) us refl
tokens_piece s (Byte b) us h = grind (arith, tokens_with, Bool, not)

-- what is neither blank, nor `:`, nor `|` is a piece
pub piece_else : (u : LineUnit) → is_blank u ≡ false → is_byte 58 u ≡ false → is_byte 124 u ≡ false → is_piece u ≡ true
piece_else (Continuation len) blank colon bar = cc
piece_else (Escape b) blank colon bar = refl
piece_else (Byte b) blank colon bar = rw (blank, colon, bar) refl

-- the word from start that ends here so far, and continues if a piece follows
abbrev pub word_so_far : Bytes → ℕ → ℕ → ℕ → List TokenAt
word_so_far text start end index =
    if goes_on (units (drop index text)) then with_first_start start (tokens_at text index) else
    (record { kind = Word; start = start; end = end } ∷ tokens_at text index)

pub goes_on_piece : (u : LineUnit) (us : LineUnits) → is_piece u ≡ true → goes_on (u ∷ us) ≡ true
goes_on_piece (Continuation len) us h = cc
goes_on_piece (Escape b) us h = refl
goes_on_piece (Byte b) us h = h

widened_again : (start index : ℕ) (ts : List TokenAt) → with_first_start start (with_first_start index ts) ≡ with_first_start start ts
widened_again start index [] = refl
widened_again start index (t ∷ ts) = refl

pub continuation_blank : (u : LineUnit) → is_continuation u ≡ true → is_blank u ≡ true
continuation_blank (Continuation len) h = refl
continuation_blank (Escape b) h = cc
continuation_blank (Byte b) h = cc

-- a unit that is at an index, and its length
pub record Stands (text : Bytes) (index n : ℕ) (u : LineUnit) : Type 0 where
  pub len : n ≡ unit_len u
  pub first : units (drop index text) ≡ u ∷ units (drop (index + n) text)

pub stands : (text : Bytes) (index n : ℕ) (u : LineUnit) → n ≡ unit_len u → units (drop index text) ≡ u ∷ units (drop (index + unit_len u) text) →
    Stands text index n u
stands text index n u len first = grind (arith, common_steps)

module _ (text : Bytes) (index n : ℕ) (u : LineUnit) (unit : Stands text index n u) where
  pub blank_adds_none : is_blank u ≡ true → tokens_at text (index + n) ≡ tokens_at text index
  blank_adds_none h = grind (arith, tokens_blank)

  pub word_begins : is_piece u ≡ true → word_so_far text index (index + n) (index + n) ≡ tokens_at text index
  word_begins h = grind (arith, tokens_piece)

  pub word_goes_on : (start end : ℕ) → is_piece u ≡ true → word_so_far text start end index ≡ tokens_at text start →
      word_so_far text start (index + n) (index + n) ≡ tokens_at text start
  word_goes_on start end h so_far =
      let on : goes_on (units (drop index text)) ≡ true = grind (arith, common_steps) in
      let before : with_first_start start (tokens_at text index) ≡ tokens_at text start = rw on at so_far in
      sym (rw (← before, ← word_begins h, inside)) where
        inside : with_first_start start (word_so_far text index (index + n) (index + n)) ≡ word_so_far text start (index + n) (index + n)
        inside = elim (cases_Bool (goes_on (units (drop (index + n) text)))) [
          | inl g ↦ grind (arith, widened_again)
          | inr g ↦ rw g refl
        ]

  pub word_waits : (start end : ℕ) → is_continuation u ≡ true → word_so_far text start end index ≡ tokens_at text start →
      word_so_far text start end (index + n) ≡ tokens_at text start
  word_waits start end h so_far =
      grind (arith, blank_adds_none, continuation_blank)

-- the unit that a byte is that is a piece of a word by itself
pub plain_stands : (text : Bytes) (index : ℕ) → index < length text → is_plain_piece (get_or text index 0) ≡ true →
    Stands text index 1 (Byte (get_or text index 0))
plain_stands text index in_text plain =
    grind (arith, common_steps)

pub plain_piece : (b : ℕ) → is_plain_piece b ≡ true → is_piece (Byte b) ≡ true
plain_piece b plain =
    grind (arith, common_steps)

-- two readings of the unit at one index are one
pub piece_at : (text : Bytes) (index : ℕ) (u : LineUnit) (us : LineUnits) → BeginsPiece text index → units (drop index text) ≡ u ∷ us → is_piece u ≡ true
piece_at text index u us begins e =
    cc

pub byte_len : (c : ℕ) (u : LineUnit) → is_byte c u ≡ true → unit_len u ≡ 1
byte_len c (Continuation len) h = cc
byte_len c (Escape b) h = cc
byte_len c (Byte b) h = refl

-- the token that a colon is
module _ (text : Bytes) (s : ℕ) (u : LineUnit) (e : units (drop s text) ≡ u ∷ units (drop (s + unit_len u) text)) where
  pub colon_at : is_byte 58 u ≡ true → tokens_at text s ≡ token_of Colon s 1 ∷ tokens_at text (s + 1)
  colon_at h = grind (arith, tokens_colon, byte_len)

pub byte_is : (c : ℕ) (u : LineUnit) → is_byte c u ≡ true → u ≡ Byte c
byte_is c (Continuation len) h = cc
byte_is c (Escape b) h = cc
byte_is c (Byte b) h = ap Byte (eqb-true b c h)

-- a byte other than `$` is a unit
pub byte_at : (c : ℕ) (text : Bytes) (index : ℕ) → index < length text → get_or text index 0 ≡ c → (c == 36) ≡ false →
    units (drop index text) ≡ Byte c ∷ units (drop (index + 1) text)
byte_at c text index in_text is other = grind (arith, common_steps)

-- whether this byte is the first unit
abbrev pub first_is : ℕ → LineUnits → Bool
first_is c [] = false
first_is c (u ∷ us) = is_byte c u

continued_first : (c len : ℕ) (us : LineUnits) → first_is c (with_continuation len us) ≡ false
continued_first c len [] = refl
continued_first c len (Byte b ∷ us) = grind (arith, common_steps, continued_first c (len + 1) us)
continued_first c len (Escape b ∷ us) = refl
continued_first c len (Continuation more ∷ us) = refl

dollar_first : (c : ℕ) (bytes : Bytes) → (36 == c) ≡ false → first_is c (units (36 ∷ bytes)) ≡ false
dollar_first c [] other = other
dollar_first c (b ∷ []) other = grind (arith, common_steps)
dollar_first c (b ∷ d ∷ bytes) other = grind (arith, common_steps, continued_first)

-- it is not, if the first byte is another
pub not_first : (c : ℕ) (bytes : Bytes) → (36 == c) ≡ false → (0 < length bytes → get_or bytes 0 0 ≡ c → ⊥) → first_is c (units bytes) ≡ false
not_first c [] other differs = refl
not_first c (b ∷ bytes) other differs = grind (arith, common_steps, eqb-true, units_byte, dollar_first, differs)

-- the token that a bar begins, by the unit after it
module _ (text : Bytes) (s : ℕ) (begins : BeginsBar text s) where
  module _ (v : LineUnit) (e : units (drop (s + 1) text) ≡ v ∷ units (drop (s + 1 + unit_len v) text)) where
    after : (c : ℕ) → is_byte c v ≡ true → units (drop (s + 1) text) ≡ Byte c ∷ units (drop (s + 2) text)
    after c h = grind (arith, common_steps)

    pub bar_bar : is_byte 124 v ≡ true → tokens_at text s ≡ token_of DoubleBar s 2 ∷ tokens_at text (s + 2)
    bar_bar h = cc (after 124 h)

    pub bar_with_at : is_byte 64 v ≡ true → tokens_at text s ≡ token_of BarAt s 2 ∷ tokens_at text (s + 2)
    bar_with_at h = cc (after 64 h)

  pub bar_single : first_is 124 (units (drop (s + 1) text)) ≡ false → first_is 64 (units (drop (s + 1) text)) ≡ false →
      tokens_at text s ≡ token_of Bar s 1 ∷ tokens_at text (s + 1)
  bar_single bar at = ap (tokens_from s) begins ∙ alone (units (drop (s + 1) text)) bar at where
    alone : (us : LineUnits) → first_is 124 us ≡ false → first_is 64 us ≡ false → tokens_from s (Byte 124 ∷ us) ≡ token_of Bar s 1 ∷ tokens_from (s + 1) us
    alone [] bar at = refl
    alone (u ∷ us) bar at = rw (bar, at) refl
