-- The tokens of a text are a list of tokens that it is divided into, and the only one.
use Rattle.std.proofs.Common.{inl, inr, ◌⊎◌, ◌≡◌, ℕ, ◌+◌, Bool, true, false, List, [], ◌∷◌, ◌++◌, refl, sym, ap, ◌∙◌, subst, arith, append_assoc}
use Rattle.std.specs.List.{AllByRecursion}
use Rattle.std.proofs.lemmas.Bool.{cases_Bool, and_parts}
use Rattle.ninja_text.specs.Units.{LineUnits, units, unit_len, is_byte, is_continuation}
use Rattle.ninja_text.specs.declared.lexing.LineUnit.{LineUnit}
use Rattle.ninja_text.specs.declared.lexing.LineUnit.TheVariants.{Continuation, Escape, Byte}
use Rattle.ninja_text.specs.declared.lexing.TokenKind.{TokenKind}
use Rattle.ninja_text.specs.declared.lexing.TokenKind.TheVariants.{Word, Bar, DoubleBar, BarAt, Colon}
use Rattle.ninja_text.specs.Tokens.{token_of, TokenAt, is_blank, is_piece, goes_on, with_first_start, with_unit, tokens_from, tokens}
use Rattle.ninja_text.specs.TokenLists.{total_len, may_follow, is_word, begins_with, IsToken, AreBlank, BeginsWithToken, LexesAs, AreTokens}
use Rattle.ninja_text.proofs.Units.{tokens_with, tokens_blank, tokens_piece, piece_else, goes_on_piece, continuation_blank, byte_is, byte_len}

-- blank units add no token
blank_first : (gap us : LineUnits) (index : ℕ) → AreBlank gap → tokens_from index (gap ++ us) ≡ tokens_from (index + total_len gap) us
blank_first [] us index h = ap (λ n. tokens_from n us) {x = index} {y = index + 0} (omega arith)
blank_first (u ∷ gap) us index h = grind (arith, tokens_blank, blank_first gap us (index + unit_len u) h.1)

blank_alone : (us : LineUnits) (index : ℕ) → AreBlank us → tokens_from index us ≡ []
blank_alone [] index h = refl
blank_alone (u ∷ us) index h = tokens_blank index u us h.0 ∙ blank_alone us (index + unit_len u) h.1

-- a word from start, and the tokens after it
abbrev word_then : ℕ → ℕ → LineUnits → List TokenAt
word_then start end after = record { kind = Word; start = start; end = end } ∷ tokens_from end after

word_at : (start m n : ℕ) (after : LineUnits) → m ≡ n → word_then start m after ≡ word_then start n after
word_at start m n after e = cc

-- a word continues in these units, which begin at an index
record GoesOn (start index : ℕ) (us after : LineUnits) : Type 0 where
  on : goes_on (us ++ after) ≡ true
  word : with_first_start start (tokens_from index (us ++ after)) ≡ word_then start (index + total_len us) after

-- it ends here, or continues
abbrev Follows : Bool → ℕ → ℕ → LineUnits → LineUnits → Type 0
Follows may_end start index us after = ((us ≡ []) × (may_end ≡ true)) ⊎ GoesOn start index us after

-- the word that a piece begins
word_first : (s : ℕ) (u : LineUnit) (us after : LineUnits) → is_piece u ≡ true → goes_on after ≡ false → Follows true s (s + unit_len u) us after
    → tokens_from s (u ∷ (us ++ after)) ≡ word_then s (s + total_len (u ∷ us)) after
word_first s u us after p stop (inl none) = grind (arith, tokens_piece, word_at)
word_first s u us after p stop (inr goes) = grind (arith, tokens_piece, word_at)

no_piece : (u : LineUnit) → is_continuation u ≡ true → is_piece u ≡ false
no_piece (Continuation len) h = refl
no_piece (Escape b) h = cc
no_piece (Byte b) h = cc

goes_over : (u : LineUnit) (us : LineUnits) → is_continuation u ≡ true → goes_on (u ∷ us) ≡ goes_on us
goes_over (Continuation len) us h = refl
goes_over (Escape b) us h = cc
goes_over (Byte b) us h = cc

-- a continuation in a word is passed over
passed_over : (u : LineUnit) (us after : LineUnits) (may_end : Bool) (start index : ℕ) → is_continuation u ≡ true →
    Follows false start (index + unit_len u) us after → Follows may_end start index (u ∷ us) after
passed_over u us after may_end start index h (inl none) = cc
passed_over u us after may_end start index h (inr goes) = inr (record {
  on = goes_over u (us ++ after) h ∙ goes.on;
  word = ap (with_first_start start) (tokens_blank index u (us ++ after) (continuation_blank u h)) ∙ goes.word
      ∙ word_at start (index + unit_len u + total_len us) (index + (unit_len u + total_len us)) after (omega arith);
})

-- what follows in a word, to its end
follows : (us after : LineUnits) (may_end : Bool) (start index : ℕ) → goes_on after ≡ false → may_follow may_end us ≡ true →
    Follows may_end start index us after
follows [] after may_end start index stop h = inl (refl, h)
follows (u ∷ us) after may_end start index stop h = elim (cases_Bool (is_piece u)) [
  | inl p ↦ inr (record {
    on = goes_on_piece u (us ++ after) p;
    word = ap (with_first_start start) (word_first index u us after p stop (follows us after true index (index + unit_len u) stop (rw p at h)));
  })
  | inr p ↦ let both = and_parts (is_continuation u) (may_follow false us) (rw p at h) in
      passed_over u us after may_end start index both.0 (follows us after false start (index + unit_len u) stop both.1)
]

-- the token at the front
token_first : (kind : TokenKind) (s : ℕ) (own after : LineUnits) → IsToken kind own after
    → tokens_from s (own ++ after) ≡ token_of kind s (total_len own) ∷ tokens_from (s + total_len own) after
token_first Word s [] after h = cc
token_first Word s (u ∷ us) after h = grind (arith, and_parts, word_first, follows)
token_first Bar s own after h =
    subst (λ xs. tokens_from s (xs ++ after) ≡ token_of Bar s (total_len xs) ∷ tokens_from (s + total_len xs) after) (sym h.0)
    (alone after h.1 h.2) where
      alone : (us : LineUnits) → begins_with 124 us ≡ false → begins_with 64 us ≡ false →
          tokens_from s (Byte 124 ∷ us) ≡ token_of Bar s 1 ∷ tokens_from (s + 1) us
      alone [] bar at = refl
      alone (v ∷ us) bar at = rw (bar, at) refl
token_first DoubleBar s own after h =
    subst (λ xs. tokens_from s (xs ++ after) ≡ token_of DoubleBar s (total_len xs) ∷ tokens_from (s + total_len xs) after) (sym h)
    refl
token_first BarAt s own after h =
    subst (λ xs. tokens_from s (xs ++ after) ≡ token_of BarAt s (total_len xs) ∷ tokens_from (s + total_len xs) after) (sym h) refl
token_first Colon s own after h = grind (arith, tokens_with)

-- units are divided into one list of tokens only
one_list : (ts : List TokenAt) (index : ℕ) (us : LineUnits) → LexesAs index us ts → tokens_from index us ≡ ts
one_list [] index us h = blank_alone us index h
one_list (t ∷ ts) index us h = grind (arith, blank_first, token_first, one_list ts t.end h.0 h.2)

pub tokens_one : (text : List ℕ) (ts : List TokenAt) → AreTokens text ts → ts ≡ tokens text
tokens_one text ts h = sym (one_list ts 0 (units text) h)

total_len-append : (us vs : LineUnits) → total_len (us ++ vs) ≡ total_len us + total_len vs
total_len-append [] vs = omega arith
total_len-append (u ∷ us) vs = let later = total_len-append us vs in omega arith

-- past blank units alone no word continues
blank_stops : (us : LineUnits) → AreBlank us → goes_on us ≡ false
blank_stops [] h = refl
blank_stops (Continuation len ∷ us) h = blank_stops us h.1
blank_stops (Escape b ∷ us) h = cc
blank_stops (Byte b ∷ us) h = rw h.0 refl

abbrev AreContinuations : LineUnits → Type 0
AreContinuations us = AllByRecursion (λ u. is_continuation u ≡ true) us

-- blank units over which a word continues are continuations
gap_continues : (gap us : LineUnits) → AreBlank gap → goes_on (gap ++ us) ≡ true → AreContinuations gap × (goes_on us ≡ true)
gap_continues [] us blank h = (tt, h)
gap_continues (Continuation len ∷ gap) us blank h = let later = gap_continues gap us blank.1 h in ((refl, later.0), later.1)
gap_continues (Escape b ∷ gap) us blank h = cc
gap_continues (Byte b ∷ gap) us blank h = absurd (let x : false ≡ true = rw blank.0 at h in cc)

-- the token in which a word continues
record GoesOnIn (kind : TokenKind) (own after : LineUnits) : Type 0 where
  kind_is : kind ≡ Word
  own_is : is_word own ≡ true
  stops : goes_on after ≡ false

goes_on_in : (kind : TokenKind) (own after : LineUnits) → IsToken kind own after → goes_on (own ++ after) ≡ true → GoesOnIn kind own after
goes_on_in Word own after h g = record { kind_is = refl; own_is = h.0; stops = h.1 }
goes_on_in Bar own after h g = cc (subst (λ xs. goes_on (xs ++ after) ≡ true) h.0 g)
goes_on_in DoubleBar own after h g = cc (subst (λ xs. goes_on (xs ++ after) ≡ true) h g)
goes_on_in BarAt own after h g = cc (subst (λ xs. goes_on (xs ++ after) ≡ true) h g)
goes_on_in Colon own after h g = cc (subst (λ xs. goes_on (xs ++ after) ≡ true) h g)

-- a word may follow a piece, past continuations
word_over : (gap own : LineUnits) (may_end : Bool) → AreContinuations gap → is_word own ≡ true → may_follow may_end (gap ++ own) ≡ true
word_over [] [] may_end g w = cc
word_over [] (u ∷ us) may_end g w = grind (arith, and_parts)
word_over (u ∷ gap) own may_end g w = rw (no_piece u g.0, g.0) (word_over gap own false g.1 w)

-- a piece in front of the word that continues after it
piece_joins : (index : ℕ) (u : LineUnit) (us : LineUnits) (rest : List TokenAt) → is_piece u ≡ true → goes_on us ≡ true →
    LexesAs (index + unit_len u) us rest → LexesAs index (u ∷ us) (with_first_start index rest)
piece_joins index u us [] p g h = cc (sym g ∙ blank_stops us h)
piece_joins index u us (t ∷ ts) p g h =
    let leads = h.1 in
    let gap = gap_continues leads.gap (leads.own ++ h.0) leads.blank (ap goes_on (sym leads.whole) ∙ g) in
    let word = goes_on_in t.kind leads.own h.0 leads.token gap.1 in
    let joined : is_word (u ∷ (leads.gap ++ leads.own)) ≡ true = rw p (word_over leads.gap leads.own true gap.0 word.own_is) in (
      h.0,
      record {
        gap = [];
        own = u ∷ (leads.gap ++ leads.own);
        whole = ap (λ xs. u ∷ xs) (leads.whole ∙ sym (append_assoc leads.gap leads.own h.0));
        blank = tt;
        start = omega arith;
        end = omega (arith, leads.end, leads.start, total_len-append leads.gap leads.own);
        token = subst (λ kind. IsToken kind (u ∷ (leads.gap ++ leads.own)) h.0) (sym word.kind_is) (joined, word.stops);
      },
      h.2,
    )

-- a unit that is a token by itself
alone : (index : ℕ) (u : LineUnit) (us : LineUnits) (kind : TokenKind) (end : ℕ) → end ≡ index + unit_len u → IsToken kind (u ∷ []) us →
    BeginsWithToken index (u ∷ us) (record { kind = kind; start = index; end = end }) us
alone index u us kind end e token = record { gap = []; own = u ∷ []; whole = refl; blank = tt; start = omega arith; end = omega arith; token = token }

-- a blank unit in front
blank_joins : (index : ℕ) (u : LineUnit) (us : LineUnits) (rest : List TokenAt) → is_blank u ≡ true → LexesAs (index + unit_len u) us rest →
    LexesAs index (u ∷ us) rest
blank_joins index u us [] b h = (b, h)
blank_joins index u us (t ∷ ts) b h = let leads = h.1 in (
  h.0,
  record {
    gap = u ∷ leads.gap;
    own = leads.own;
    whole = ap (λ xs. u ∷ xs) leads.whole;
    blank = (b, leads.blank);
    start = omega (arith, leads.start);
    end = leads.end;
    token = leads.token;
  },
  h.2,
)

blank_else : (u : LineUnit) → is_piece u ≡ false → is_byte 58 u ≡ false → is_byte 124 u ≡ false → is_blank u ≡ true
blank_else u p colon bar = grind (arith, cases_Bool, piece_else)

-- what a unit adds in front is a list of tokens again, if a `|` in front is one alone
with_unit_lexes : (index : ℕ) (u : LineUnit) (us : LineUnits) (rest : List TokenAt) →
    (is_byte 124 u ≡ true → (begins_with 124 us ≡ false) × (begins_with 64 us ≡ false))
    → LexesAs (index + unit_len u) us rest → LexesAs index (u ∷ us) (with_unit index u us rest)
with_unit_lexes index u us rest longest h = elim (cases_Bool (is_piece u)) [
  | inl p ↦ elim (cases_Bool (goes_on us)) [
    | inl g ↦ rw (p, g) (piece_joins index u us rest p g h)
    | inr g ↦ rw (p, g) (us, alone index u us Word (index + unit_len u) refl (rw p refl, g), h)
  ]
  | inr p ↦ elim (cases_Bool (is_byte 58 u)) [
    | inl c ↦ rw (p, c) (
      us,
      alone index u us Colon (index + 1) (omega (arith, byte_len 58 u c)) (ap (λ v. v ∷ []) (byte_is 58 u c)),
      subst (λ n. LexesAs (index + n) us rest) (byte_len 58 u c) h,
    )
    | inr c ↦ elim (cases_Bool (is_byte 124 u)) [
      | inl b ↦ rw (p, c, b) (
        us,
        alone index u us Bar (index + 1) (omega (arith, byte_len 124 u b)) (ap (λ v. v ∷ []) (byte_is 124 u b), (longest b).0, (longest b).1),
        subst (λ n. LexesAs (index + n) us rest) (byte_len 124 u b) h,
      )
      | inr b ↦ rw (p, c, b) (blank_joins index u us rest (blank_else u p c b) h)
    ]
  ]
]

-- two units that are a token
pair_leads : (index : ℕ) (u v : LineUnit) (us : LineUnits) (kind : TokenKind) → unit_len u ≡ 1 → unit_len v ≡ 1 → IsToken kind (u ∷ v ∷ []) us →
    BeginsWithToken index (u ∷ v ∷ us) (token_of kind index 2) us
pair_leads index u v us kind one other token =
    record { gap = []; own = u ∷ v ∷ []; whole = refl; blank = tt; start = omega arith; end = omega arith; token = token }

two_units : {u v a b : LineUnit} → u ≡ a → v ≡ b → ◌≡◌ {A = LineUnits} (u ∷ v ∷ []) (a ∷ b ∷ [])
two_units p q = rw (p, q) refl

lexes : (us : LineUnits) (index : ℕ) → LexesAs index us (tokens_from index us)
lexes [] index = tt
lexes (u ∷ []) index = with_unit_lexes index u [] [] (λ _. (refl, refl)) tt
lexes (u ∷ v ∷ us) index = elim (cases_Bool (is_byte 124 u)) [
  | inr n ↦ subst (LexesAs index (u ∷ v ∷ us)) (sym (tokens_with index u (v ∷ us) n))
      (with_unit_lexes index u (v ∷ us) _ (λ b. cc (sym b ∙ n)) (lexes (v ∷ us) (index + unit_len u)))
  | inl b ↦ elim (cases_Bool (is_byte 124 v)) [
    | inl d ↦ rw (b, d) (
      us,
      pair_leads index u v us DoubleBar (byte_len 124 u b) (byte_len 124 v d) (two_units (byte_is 124 u b) (byte_is 124 v d)),
      lexes us (index + 2),
    )
    | inr d ↦ elim (cases_Bool (is_byte 64 v)) [
      | inl a ↦ rw (b, d, a)
          (us, pair_leads index u v us BarAt (byte_len 124 u b) (byte_len 64 v a) (two_units (byte_is 124 u b) (byte_is 64 v a)), lexes us (index + 2))
      | inr a ↦ subst (λ w. LexesAs index (w ∷ v ∷ us) (tokens_from index (w ∷ v ∷ us))) (sym (byte_is 124 u b))
          (rw (d, a) (with_unit_lexes index (Byte 124) (v ∷ us) (tokens_from (index + 1) (v ∷ us)) (λ _. (d, a)) (lexes (v ∷ us) (index + 1))))
    ]
  ]
]

pub tokens_are : (text : List ℕ) → AreTokens text (tokens text)
tokens_are text = lexes (units text) 0
