-- The bytes that a text's units are, and the units of a line without a lexical fault.
use Rattle.std.proofs.lemmas.Grind.{common_steps}
use Rattle.ninja_text.specs.Bytes.{Bytes}
use Rattle.std.proofs.Common.{inl, inr, ◌≡◌, ℕ, suc, zero, ◌+◌, Bool, true, false, [], ◌∷◌, ◌++◌, length, take, drop, replicate, refl, sym, ap, ◌∙◌, subst, arith, ◌==◌, ◌&&◌, length-append, append_assoc, not, Some, None, rules}
use Rattle.std.specs.Prelude.{slice_range, Option}
use Rattle.std.specs.List.{list_all}
use Rattle.std.proofs.lemmas.List.{drop_at, take_at}
use Rattle.std.proofs.lemmas.Bool.{cases_Bool, eqb-true, and_parts}
use Rattle.ninja_text.specs.Units.{LineUnits, units, unit_len, is_continuation, with_continuation}
use Rattle.ninja_text.specs.declared.lexing.LineUnit.{LineUnit}
use Rattle.ninja_text.specs.declared.lexing.LineUnit.TheVariants.{Continuation, Escape, Byte}
use Rattle.ninja_text.specs.Escapes.{is_escaped, IsContinuation}
use Rattle.ninja_text.specs.TokenLists.{total_len, begins_with}
use Rattle.ninja_text.proofs.Units.{units_byte, units_feed, end_continued}
use Rattle.ninja_text.proofs.SpelledUnits.{is_plain}
use Rattle.ninja_text.specs.declared.fault.LexFault.{LexFault}
use Rattle.ninja_text.specs.Lines.{LineEnd, begins_with_line_feed, end_from, text_before, text_of_line}
use Rattle.ninja_text.specs.Lexical.{unit_fault, earlier, first_fault}
use Rattle.ninja_text.specs.Meanings.{IsFaultless}

-- ---- the bytes that the units of a text are, one unit after another

-- bytes that are this unit
abbrev pub IsUnitText : LineUnit → Bytes → Type 0
IsUnitText (Continuation len) bytes = IsContinuation bytes × (length bytes ≡ len)
IsUnitText (Escape b) bytes = bytes ≡ 36 ∷ b ∷ []
IsUnitText (Byte b) bytes = bytes ≡ b ∷ []

-- a continuation, and no space after it
abbrev TakesSpaces : LineUnit → LineUnits → Type 0
TakesSpaces u us = is_continuation u ≡ true → begins_with 32 us ≡ false

-- Bytes that are these units, one after another. Each continuation has all the spaces that follow it.
abbrev pub AreUnitTexts : LineUnits → Bytes → Type 0
AreUnitTexts [] bytes = bytes ≡ []
AreUnitTexts (u ∷ us) bytes = (own : Bytes) × (rest : Bytes) × IsUnitText u own × TakesSpaces u us × AreUnitTexts us rest × (bytes ≡ own ++ rest)

-- that many spaces, and one more
abbrev spaces : ℕ → Bytes
spaces n = replicate n 32

one_more : (n : ℕ) → spaces n ++ 32 ∷ [] ≡ 32 ∷ spaces n
one_more zero = refl
one_more (suc n) = rw (one_more n)

longer : (own : Bytes) → IsContinuation own → IsContinuation (own ++ 32 ∷ [])
longer own c = (
  suc c.0,
  grind (arith, common_steps),
)

-- a continuation in front of units takes the spaces that they begin with
continued : (len : ℕ) (us : LineUnits) (own rest : Bytes) → IsContinuation own → length own ≡ len → AreUnitTexts us rest →
    AreUnitTexts (with_continuation len us) (own ++ rest)
continued len [] own rest c is h = search rules
continued len (Byte b ∷ us) own rest c is h = elim (cases_Bool (b == 32)) [
  | inl s ↦ rw s (subst (AreUnitTexts (with_continuation (len + 1) us)) (sym (joins s))
      (continued (len + 1) us (own ++ 32 ∷ []) h.1 (longer own c) (grind (arith, common_steps)) h.4))
  | inr s ↦ search rules
] where
  joins : (b == 32) ≡ true → own ++ rest ≡ (own ++ 32 ∷ []) ++ h.1
  joins s = grind (arith, common_steps)
continued len (Escape b ∷ us) own rest c is h = search rules
continued len (Continuation more ∷ us) own rest c is h = search rules

no_continuation : {A : Type 0} → false ≡ true → A
no_continuation h = absurd (cc)

escape_text : (a b : ℕ) → (a == 36) ≡ true → IsUnitText (Escape b) (a ∷ b ∷ [])
escape_text a b d = grind (arith, common_steps)

feed_text : (a b : ℕ) → (a == 36) ≡ true → (b == 10) ≡ true → IsContinuation (a ∷ b ∷ [])
feed_text a b d f = grind (arith, common_steps)

return_text : (a b c : ℕ) → (a == 36) ≡ true → ((b == 13) && (c == 10)) ≡ true → IsContinuation (a ∷ b ∷ c ∷ [])
return_text a b c d r =
    grind (arith, common_steps)

-- the units of a text are its bytes
pub unit_texts : (bytes : Bytes) → AreUnitTexts (units bytes) bytes
unit_texts [] = refl
unit_texts (a ∷ []) = grind (arith, common_steps)
unit_texts (a ∷ b ∷ []) = grind (arith, cases_Bool, feed_text, escape_text, no_continuation, unit_texts (b ∷ []))
unit_texts (a ∷ b ∷ c ∷ bytes) = elim (cases_Bool (a == 36)) [
  | inl d ↦ elim (cases_Bool (b == 10)) [
    | inl f ↦ rw (d, f) (continued 2 (units (c ∷ bytes)) (a ∷ b ∷ []) (c ∷ bytes) (feed_text a b d f) refl (unit_texts (c ∷ bytes)))
    | inr f ↦ elim (cases_Bool ((b == 13) && (c == 10))) [
      | inl r ↦ rw (d, f, r) (continued 3 (units bytes) (a ∷ b ∷ c ∷ []) bytes (return_text a b c d r) refl (unit_texts bytes))
      | inr r ↦ grind (arith, common_steps, unit_texts (c ∷ bytes))
    ]
  ]
  | inr d ↦ grind (arith, common_steps, unit_texts (b ∷ c ∷ bytes))
]

-- the bytes of some units, and those of the units after them
pub split : (us vs : LineUnits) (bytes : Bytes) → AreUnitTexts (us ++ vs) bytes →
    (x : Bytes) × (y : Bytes) × AreUnitTexts us x × AreUnitTexts vs y × (bytes ≡ x ++ y)
split [] vs bytes h = ([], bytes, refl, h, refl)
split (u ∷ us) vs bytes h =
    let later = split us vs h.1 h.4 in (
      h.0 ++ later.0,
      later.1,
      grind (arith, common_steps),
      later.3,
      grind (arith, common_steps),
    )

unit_length : (u : LineUnit) (own : Bytes) → IsUnitText u own → length own ≡ unit_len u
unit_length (Continuation len) own h = h.1
unit_length (Escape b) own h = ap length h
unit_length (Byte b) own h = ap length h

pub texts_length : (us : LineUnits) (bytes : Bytes) → AreUnitTexts us bytes → length bytes ≡ total_len us
texts_length [] bytes h = ap length h
texts_length (u ∷ us) bytes h =
    grind (arith, common_steps, texts_length us h.1 h.4)

-- a unit of a text without lexical fault, and without an end: an escaped byte, one that stands for itself, or a continuation
abbrev pub is_proper : LineUnit → Bool
is_proper (Continuation len) = true
is_proper (Escape b) = is_escaped b
is_proper (Byte b) = is_plain b

-- a continuation takes spaces
takes : (n k : ℕ) (rest : Bytes) → with_continuation k (units (spaces n ++ rest)) ≡ with_continuation (k + n) (units rest)
takes zero k rest = search rules
takes (suc n) k rest =
    grind (arith, units_byte, takes n (k + 1) rest)

-- and no other unit
takes_no_more : (len : ℕ) (us : LineUnits) → begins_with 32 us ≡ false → with_continuation len us ≡ Continuation len ∷ us
takes_no_more len [] h = refl
takes_no_more len (Byte b ∷ us) h = rw h refl
takes_no_more len (Escape b ∷ us) h = refl
takes_no_more len (Continuation more ∷ us) h = refl

spaces_length : (n : ℕ) → length (spaces n) ≡ n
spaces_length zero = refl
spaces_length (suc n) = ap suc (spaces_length n)

-- a continuation at the front is read back
continuation_back : (own rest : Bytes) (us : LineUnits) → IsContinuation own → begins_with 32 us ≡ false → units rest ≡ us →
    units (own ++ rest) ≡ Continuation (length own) ∷ us
continuation_back own rest us c none later = grind (arith, units_feed, spaces_length, ℕ, takes, takes_no_more)

-- proper units are read back
pub read_back : (us : LineUnits) (bytes : Bytes) → list_all is_proper us ≡ true → AreUnitTexts us bytes → units bytes ≡ us
read_back [] bytes p h = ap units h
read_back (Continuation len ∷ us) bytes p h =
    grind (arith, continuation_back, read_back us h.1 p h.4)
read_back (Escape b ∷ us) bytes p h =
    let q = and_parts (is_escaped b) (list_all is_proper us) p in
    grind (arith, common_steps, read_back us h.1 q.1 h.4)
read_back (Byte b ∷ us) bytes p h =
    let q = and_parts (is_plain b) (list_all is_proper us) p in
    grind (arith, common_steps, read_back us h.1 q.1 h.4)

-- The text from an index on is these units, all of them proper.
pub record Remains (text : Bytes) (index : ℕ) (us : LineUnits) : Type 0 where
  pub front : Bytes
  pub bytes : Bytes
  pub whole : text ≡ front ++ bytes
  pub front_len : length front ≡ index
  pub texts : AreUnitTexts us bytes
  pub proper : list_all is_proper us ≡ true

pub remains_all : (text : Bytes) → list_all is_proper (units text) ≡ true → Remains text 0 (units text)
remains_all text proper = grind (arith, common_steps, unit_texts text)

-- past the first of them, and past more
pub past_unit : (text : Bytes) (index : ℕ) (u : LineUnit) (us : LineUnits) → Remains text index (u ∷ us) → Remains text (index + unit_len u) us
past_unit text index u us r =
    let h = r.texts in
    grind (
      arith,
      common_steps,
      append_assoc r.front h.0 h.1,
      length-append r.front h.0,
      unit_length u h.0 h.2,
      and_parts (is_proper u) (list_all is_proper us) r.proper,
    )

pub past_units : (text : Bytes) (index : ℕ) (us vs : LineUnits) → Remains text index (us ++ vs) → Remains text (index + total_len us) vs
past_units text index [] vs r = search rules
past_units text index (u ∷ us) vs r =
    grind (arith, common_steps, past_units text (index + unit_len u) us vs (past_unit text index u (us ++ vs) r))

-- the bytes of the first of them
pub record Part (text : Bytes) (start : ℕ) (us : LineUnits) : Type 0 where
  pub bytes : Bytes
  pub texts : AreUnitTexts us bytes
  pub proper : list_all is_proper us ≡ true
  pub slice : slice_range text start (start + total_len us) ≡ bytes

pub first_part : (text : Bytes) (start : ℕ) (us vs : LineUnits) → Remains text start (us ++ vs) → Part text start us
first_part text start us vs r =
    let parts = split us vs r.bytes r.texts in
    record {
      bytes = parts.0;
      texts = parts.2;
      proper = grind (arith, common_steps);
      slice = grind (arith, drop_at, take_at, texts_length);
    }

-- the rest of the text
pub rest_is : (text : Bytes) (index : ℕ) (us : LineUnits) (r : Remains text index us) → drop index text ≡ r.bytes
rest_is text index us r = grind (arith, common_steps)

-- ---- the units of a line without a lexical fault

-- ---- no unit before a line's end is an LF, or a `$` by itself

abbrev is_inner : LineUnit → Bool
is_inner (Continuation len) = true
is_inner (Escape b) = true
is_inner (Byte b) = not (b == 36) && not (b == 10)

-- The units up to the end, which is past this index, are such.
record InnerUpTo (index : ℕ) (end : LineEnd) (bytes : Bytes) : Type 0 where
  count : ℕ
  at : end.text_len ≡ index + count
  inner : list_all is_inner (units (take count bytes)) ≡ true

none_some : {e : LineEnd} {A : Type 0} → ◌≡◌ {A = Option LineEnd} None (Some e) → A
none_some h = absurd (cc)

-- the end is at this index
here : (index len : ℕ) (end : LineEnd) (bytes : Bytes) → ◌≡◌ {A = Option LineEnd} (Some (record { text_len = index; line_len = len })) (Some end) →
    InnerUpTo index end bytes
here index len end bytes h =
    grind (arith, common_steps)

past_byte : (b : ℕ) (bytes : Bytes) (index : ℕ) (end : LineEnd) → (b == 36) ≡ false →
    (end_from (index + 1) (units bytes) ≡ Some end → InnerUpTo (index + 1) end bytes)
    → end_from index (Byte b ∷ units bytes) ≡ Some end → InnerUpTo index end (b ∷ bytes)
past_byte b bytes index end d later h = elim (cases_Bool (b == 10)) [
  | inl f ↦ grind (arith, common_steps)
  | inr f ↦ elim (cases_Bool ((b == 13) && begins_with_line_feed (units bytes))) [
    | inl r ↦ grind (arith, common_steps)
    | inr r ↦
        let rest = later (rw (f, r) at h) in
        record {
          count = suc rest.count;
          at = omega (arith, rest.at);
          inner = grind (arith, common_steps);
        }
  ]
]

abbrev begins_feed : Bytes → Bool
begins_feed [] = false
begins_feed (c ∷ bytes) = c == 10

past_escape : (b : ℕ) (bytes : Bytes) (index : ℕ) (end : LineEnd) → (b == 10) ≡ false → ((b == 13) && begins_feed bytes) ≡ false →
    InnerUpTo (index + 2) end bytes → InnerUpTo index end (36 ∷ b ∷ bytes)
past_escape b bytes index end f r rest = record {
  count = suc (suc rest.count);
  at = omega (arith, rest.at);
  inner = grind (arith, common_steps);
}

inner_continued : (len : ℕ) (us : LineUnits) → list_all is_inner us ≡ true → list_all is_inner (with_continuation len us) ≡ true
inner_continued len [] h = refl
inner_continued len (Byte b ∷ us) h = grind (arith, common_steps, inner_continued (len + 1) us (and_parts (is_inner (Byte b)) (list_all is_inner us) h).1)
inner_continued len (Escape b ∷ us) h = h
inner_continued len (Continuation more ∷ us) h = h

past_feed : (bytes : Bytes) (index : ℕ) (end : LineEnd) → InnerUpTo (index + 2) end bytes → InnerUpTo index end (36 ∷ 10 ∷ bytes)
past_feed bytes index end rest = record {
  count = suc (suc rest.count);
  at = omega (arith, rest.at);
  inner = grind (arith, units_feed, bytes, inner_continued);
}

past_return : (bytes : Bytes) (index : ℕ) (end : LineEnd) → InnerUpTo (index + 3) end bytes → InnerUpTo index end (36 ∷ 13 ∷ 10 ∷ bytes)
past_return bytes index end rest = record {
  count = suc (suc (suc rest.count));
  at = omega (arith, rest.at);
  inner = grind (arith, inner_continued, bytes);
}

-- what `$` begins, by the bytes after it
module _ (b c : ℕ) (bytes : Bytes) (index : ℕ) (end : LineEnd) where
  by_feed : (b == 10) ≡ true → InnerUpTo (index + 2) end (c ∷ bytes) → InnerUpTo index end (36 ∷ b ∷ c ∷ bytes)
  by_feed f rest = grind (arith, eqb-true, past_feed, bytes)

  by_return : ((b == 13) && (c == 10)) ≡ true → InnerUpTo (index + 3) end bytes → InnerUpTo index end (36 ∷ b ∷ c ∷ bytes)
  by_return r rest =
      grind (arith, and_parts, bytes, eqb-true, past_return)

inner_units : (bytes : Bytes) (index : ℕ) (end : LineEnd) → end_from index (units bytes) ≡ Some end → InnerUpTo index end bytes
inner_units [] index end h = none_some h
inner_units (a ∷ []) index end h = grind (arith, common_steps)
inner_units (a ∷ b ∷ []) index end h = grind (arith, cases_Bool, past_byte)
inner_units (a ∷ b ∷ c ∷ bytes) index end h = elim (cases_Bool (a == 36)) [
  | inl d ↦ rw (eqb-true a 36 d) (elim (cases_Bool (b == 10)) [
    | inl f ↦ by_feed b c bytes index end f (inner_units (c ∷ bytes) (index + 2) end (sym (end_continued index 2 (units (c ∷ bytes))) ∙ (rw (d, f) at h)))
    | inr f ↦ elim (cases_Bool ((b == 13) && (c == 10))) [
      | inl r ↦ by_return b c bytes index end r (inner_units bytes (index + 3) end (sym (end_continued index 3 (units bytes)) ∙ (rw (d, f, r) at h)))
      | inr r ↦ past_escape b (c ∷ bytes) index end f r (inner_units (c ∷ bytes) (index + 2) end (rw (d, f, r) at h))
    ]
  ])
  | inr d ↦ past_byte a (b ∷ c ∷ bytes) index end d (inner_units (b ∷ c ∷ bytes) (index + 1) end) (rw d at h)
]

-- ---- and none has a fault

earlier_none : (a b : Option LexFault) → earlier a b ≡ None → (a ≡ None) × (b ≡ None)
earlier_none None b h = (refl, h)
earlier_none (Some fault) b h = absurd (cc)

all_proper : (us : LineUnits) (index : ℕ) → first_fault index us ≡ None → list_all is_inner us ≡ true → list_all is_proper us ≡ true
all_proper [] index h i = refl
all_proper (u ∷ us) index h i =
    let f = earlier_none (unit_fault index u) (first_fault (index + unit_len u) us) h in
    let p = and_parts (is_inner u) (list_all is_inner us) i in
    grind (arith, common_steps, all_proper us (index + unit_len u) f.1 p.1)

-- the units of the text of a line that has no fault
pub faultless_units : (line : Bytes) → IsFaultless line → list_all is_proper (units (text_of_line line)) ≡ true
faultless_units line r =
    let inner = inner_units line 0 _ (rw r.no_comment at r.is_line.1) in
    all_proper (units (text_of_line line)) 0 r.no_fault
    (ap (λ t. list_all is_inner (units t)) (ap (text_before line) r.is_line.1 ∙ ap (λ n. take n line) (omega (arith, inner.at))) ∙ inner.inner)
