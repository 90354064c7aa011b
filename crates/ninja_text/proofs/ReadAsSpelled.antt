-- What is read of words and values is what they stand for.
use Rattle.ninja_text.specs.Bytes.{Bytes}
use Rattle.std.proofs.Common.{arith, inl, inr, ◌⊎◌, ◌≡◌, ℕ, ◌+◌, Bool, true, false, List, [], ◌∷◌, ◌++◌, map, refl, sym, ap, ◌∙◌, subst, ◌&&◌, ◌||◌, not, IsTrue, Some, None, append_assoc}
use Rattle.std.specs.Prelude.{Option, nat_lt, All, slice_range, drop}
use Rattle.std.specs.Option.{ForSome}
use Rattle.std.specs.List.{flat_map, list_all, AllByRecursion}
use Rattle.std.proofs.lemmas.List.{append-nil}
use Rattle.std.proofs.lemmas.List.Elements.{All-from_recursion}
use Rattle.std.proofs.lemmas.Bool.{cases_Bool, and_parts, or_parts, not-true}
use Rattle.ninja_text.specs.Units.{LineUnits, units, unit_len}
use Rattle.ninja_text.specs.declared.lexing.LineUnit.{LineUnit}
use Rattle.ninja_text.specs.declared.lexing.LineUnit.TheVariants.{Continuation, Escape, Byte}
use Rattle.ninja_text.specs.declared.lexing.TokenKind.{TokenKind}
use Rattle.ninja_text.specs.declared.lexing.TokenKind.TheVariants.{Word}
use Rattle.ninja_text.specs.Lines.{text_of_line}
use Rattle.ninja_text.specs.Tokens.{TokenAt, is_blank, is_piece, unit_value, value_of, with_raw, tokens, seen_tokens}
use Rattle.ninja_text.specs.TokenLists.{total_len, begins_with, may_follow, is_word, IsToken, LexesAs}
use Rattle.ninja_text.specs.Escapes.{is_escaped, is_unwritable, IsPiece, IsContinuation, IsGap, Spells}
use Rattle.ninja_text.specs.Assignments.{AssignmentIndexes, after_run, is_name_unit, begins_with_equals, tail_units, SeenAssignment, with_bytes, assignment_of}
use Rattle.ninja_text.specs.Meanings.{IsFaultless, IsReadAsSpelled, is_value_byte, IsValuePiece, SpellsValue, IsValueAsSpelled}
use Rattle.ninja_text.proofs.ReducedList.{is_true}
use Rattle.ninja_text.proofs.ListLemmas.{tokens_are}
use Rattle.ninja_text.proofs.Units.{byte_len}
use Rattle.ninja_text.proofs.SpelledUnits.{is_plain, plain}
use Rattle.ninja_text.proofs.FaultlessLines.{IsUnitText, AreUnitTexts, is_proper, read_back, Remains, remains_all, past_unit, past_units, Part, first_part, rest_is, faultless_units}

-- ---- words

-- the byte that a piece stands for, and that its bytes stand for it
record Spelled (u : LineUnit) (own : Bytes) : Type 0 where
  byte : ℕ
  value : unit_value u ≡ byte ∷ []
  piece : IsPiece own byte

byte_piece : (b : ℕ) → is_piece (Byte b) ≡ true → is_plain b ≡ true → IsTrue (not (is_escaped b || is_unwritable b))
byte_piece b p s = grind (arith, or_parts, not-true, plain, is_true)

spelled : (u : LineUnit) (own : Bytes) → is_piece u ≡ true → is_proper u ≡ true → IsUnitText u own → Spelled u own
spelled (Continuation len) own p s h = cc
spelled (Escape b) own p s h = record { byte = b; value = refl; piece = subst (λ xs. IsPiece xs b) (sym h) (refl, refl, is_true _ s) }
spelled (Byte b) own p s h = record { byte = b; value = refl; piece = subst (λ xs. IsPiece xs b) (sym h) (refl, byte_piece b p s) }

-- what follows a piece in a word: nothing, or a gap and pieces
record Pieces (us : LineUnits) (bytes : Bytes) : Type 0 where
  gap : Bytes
  rest : Bytes
  first : ℕ
  more : Bytes
  is_gap : IsGap gap
  value : flat_map unit_value us ≡ first ∷ more
  spells : Spells rest (first ∷ more)
  whole : bytes ≡ gap ++ rest

abbrev Follows : LineUnits → Bytes → Type 0
Follows us bytes = ((us ≡ []) × (bytes ≡ [])) ⊎ Pieces us bytes

-- a piece, and what follows it
spelled_on : (u : LineUnit) (us : LineUnits) (own rest : Bytes) → Spelled u own → Follows us rest → Spells (own ++ rest) (flat_map unit_value (u ∷ us))
spelled_on u us own rest s (inl none) = grind (arith, rest, append-nil)
spelled_on u us own rest s (inr p) = grind (arith, rest)

-- with no gap before it
at_once : (u : LineUnit) (us : LineUnits) (own rest bytes : Bytes) → bytes ≡ own ++ rest → Spelled u own → Follows us rest → Follows (u ∷ us) bytes
at_once u us own rest bytes whole s f = inr (record {
  gap = [];
  rest = bytes;
  first = s.byte;
  more = flat_map unit_value us;
  is_gap = ([], tt, refl);
  value = ap (λ vs. vs ++ flat_map unit_value us) s.value;
  spells = subst (Spells bytes) (ap (λ vs. vs ++ flat_map unit_value us) s.value)
      (subst (λ xs. Spells xs (flat_map unit_value (u ∷ us))) (sym whole) (spelled_on u us own rest s f));
  whole = refl;
})

-- a continuation in front of a gap
longer_gap : (own gap : Bytes) → IsContinuation own → IsGap gap → IsGap (own ++ gap)
longer_gap own gap c g = (own ∷ g.0, (c, g.1), ap (λ xs. own ++ xs) g.2)

-- with a continuation before it
after_gap : (len : ℕ) (us : LineUnits) (own rest bytes : Bytes) → bytes ≡ own ++ rest → IsContinuation own → may_follow false us ≡ true → Follows us rest →
    Follows (Continuation len ∷ us) bytes
after_gap len us own rest bytes whole c m (inl none) = cc
after_gap len us own rest bytes whole c m (inr p) = inr (record {
  gap = own ++ p.gap;
  rest = p.rest;
  first = p.first;
  more = p.more;
  is_gap = longer_gap own p.gap c p.is_gap;
  value = p.value;
  spells = p.spells;
  whole = whole ∙ ap (λ xs. own ++ xs) p.whole ∙ sym (append_assoc own p.gap p.rest);
})

follows : (us : LineUnits) (may_end : Bool) (bytes : Bytes) → may_follow may_end us ≡ true → list_all is_proper us ≡ true → AreUnitTexts us bytes →
    Follows us bytes
follows [] may_end bytes m p h = inl (refl, h)
follows (Continuation len ∷ us) may_end bytes m p h = grind (arith, after_gap, follows us false h.1 m p h.4)
follows (Escape b ∷ us) may_end bytes m p h =
    let q = and_parts (is_escaped b) (list_all is_proper us) p in
    at_once (Escape b) us h.0 h.1 bytes h.5 (spelled (Escape b) h.0 refl q.0 h.2) (follows us true h.1 m q.1 h.4)
follows (Byte b ∷ us) may_end bytes m p h = elim (cases_Bool (is_piece (Byte b))) [
  | inl piece ↦
      let q = and_parts (is_plain b) (list_all is_proper us) p in
      at_once (Byte b) us h.0 h.1 bytes h.5 (spelled (Byte b) h.0 piece q.0 h.2) (follows us true h.1 (rw piece at m) q.1 h.4)
  | inr none ↦ absurd (let x : false ≡ true = rw none at m in cc)
]

-- the bytes of a word mean its units' values
word_spells : (us : LineUnits) (bytes : Bytes) → is_word us ≡ true → list_all is_proper us ≡ true → AreUnitTexts us bytes →
    Spells bytes (flat_map unit_value us)
word_spells [] bytes w p h = cc
word_spells (u ∷ us) bytes w p h = grind (arith, and_parts, is_proper, spelled_on, spelled, follows)

part_spells : (text : Bytes) (start : ℕ) (us : LineUnits) → is_word us ≡ true → Part text start us → (raw : Bytes) →
    raw ≡ slice_range text start (start + total_len us) → Spells raw (value_of raw)
part_spells text start us w part raw is = grind (arith, read_back, word_spells)

is_word_of : (kind : TokenKind) (own after : LineUnits) → kind ≡ Word → IsToken kind own after → is_word own ≡ true
is_word_of kind own after e h = (subst (λ k. IsToken k own after) e h).0

tokens_read : (text : Bytes) (ts : List TokenAt) (index : ℕ) (us : LineUnits) → Remains text index us → LexesAs index us ts →
    AllByRecursion IsReadAsSpelled (map (with_raw text) ts)
tokens_read text [] index us r h = tt
tokens_read text (t ∷ ts) index us r h =
    let leads = h.1 in
    let own : Remains text t.start (leads.own ++ h.0) =
    subst (λ n. Remains text n (leads.own ++ h.0)) (sym leads.start)
    (past_units text index leads.gap (leads.own ++ h.0) (subst (Remains text index) leads.whole r)) in
    let after : Remains text t.end h.0 = subst (λ n. Remains text n h.0) (sym leads.end) (past_units text t.start leads.own h.0 own) in (
      λ word. part_spells text t.start leads.own (is_word_of t.kind leads.own h.0 word leads.token) (first_part text t.start leads.own h.0 own) _
          (ap (slice_range text t.start) leads.end),
      tokens_read text ts t.end h.0 after h.2,
    )

-- of each word of a line without fault
pub words_read : (line : Bytes) → IsFaultless line → All IsReadAsSpelled (seen_tokens (text_of_line line))
words_read line r =
    let text = text_of_line line in
    All-from_recursion IsReadAsSpelled (seen_tokens text)
    (tokens_read text (tokens text) 0 (units text) (remains_all text (faultless_units line r)) (tokens_are text))

-- ---- values

no_space_first : (us : LineUnits) (bytes rest : Bytes) → AreUnitTexts us bytes → begins_with 32 us ≡ false → bytes ≡ 32 ∷ rest → ⊥
no_space_first [] bytes rest h none e = cc
no_space_first (Continuation len ∷ us) bytes rest h none e = grind (arith, rest, ◌≡◌, ℕ)
no_space_first (Escape b ∷ us) bytes rest h none e = grind (arith, rest, ◌≡◌, ℕ)
no_space_first (Byte b ∷ us) bytes rest h none e = grind (arith, rest)

-- a continuation in front of a value
gap_first : (own rest value : Bytes) → IsContinuation own → ((more : Bytes) → rest ≡ 32 ∷ more → ⊥) → SpellsValue rest value → SpellsValue (own ++ rest) value
gap_first own rest [] c none h = longer_gap own rest c h
gap_first own rest (b ∷ bs) c none h = (
  own ++ h.0,
  h.1,
  h.2,
  longer_gap own h.0 c h.3,
  h.4,
  λ space. absurd (none h.2 (h.7 ∙ ap (λ xs. xs ++ (h.1 ++ h.2)) (h.5 space) ∙ ap (λ xs. xs ++ h.2) space)),
  h.6,
  ap (λ xs. own ++ xs) h.7 ∙ sym (append_assoc own h.0 (h.1 ++ h.2)),
)

value_byte : (b : ℕ) → is_plain b ≡ true → IsTrue (is_value_byte b)
value_byte b s = grind (arith, plain, is_true)

value_spells : (us : LineUnits) (bytes : Bytes) → list_all is_proper us ≡ true → AreUnitTexts us bytes → SpellsValue bytes (flat_map unit_value us)
value_spells [] bytes p h = ([], tt, h)
value_spells (Continuation len ∷ us) bytes p h =
    subst (λ xs. SpellsValue xs (flat_map unit_value us)) (sym h.5)
    (gap_first h.0 h.1 (flat_map unit_value us) h.2.0 (λ more e. no_space_first us h.1 more h.4 (h.3 refl) e) (value_spells us h.1 p h.4))
value_spells (Escape b ∷ us) bytes p h =
    let q = and_parts (is_escaped b) (list_all is_proper us) p in
    ([], h.0, h.1, ([], tt, refl), subst (λ xs. IsValuePiece xs b) (sym h.2) (refl, refl, is_true _ q.0), (λ e. refl), value_spells us h.1 q.1 h.4, h.5)
value_spells (Byte b ∷ us) bytes p h =
    let q = and_parts (is_plain b) (list_all is_proper us) p in
    ([], h.0, h.1, ([], tt, refl), subst (λ xs. IsValuePiece xs b) (sym h.2) (refl, value_byte b q.0), (λ e. refl), value_spells us h.1 q.1 h.4, h.5)

-- what remains of a text after a run of units, and after `=`
past_run : (text : Bytes) (test : LineUnit → Bool) (us : LineUnits) (index : ℕ) → Remains text index us →
    Remains text (after_run test index us).place (after_run test index us).units
past_run text test [] index r = r
past_run text test (u ∷ us) index r = grind (arith, cases_Bool, past_run text test us (index + unit_len u) (past_unit text index u us r), past_unit)

past_equals : (text : Bytes) (us : LineUnits) (index : ℕ) → begins_with_equals us ≡ true → Remains text index us → Remains text (index + 1) (tail_units us)
past_equals text [] index e r = cc
past_equals text (u ∷ us) index e r = grind (arith, Remains, byte_len, past_unit)

rest_read : (text : Bytes) (index : ℕ) (us : LineUnits) → Remains text index us → SpellsValue (drop index text) (value_of (drop index text))
rest_read text index us r =
    subst (λ xs. SpellsValue xs (value_of xs)) (sym (rest_is text index us r))
    (subst (SpellsValue r.bytes) (sym (ap (flat_map unit_value) (read_back us r.bytes r.proper r.texts))) (value_spells us r.bytes r.proper r.texts))

value_is : (text : Bytes) (p : AssignmentIndexes) (a : SeenAssignment) → SpellsValue (drop p.value_start text) (value_of (drop p.value_start text)) →
    ◌≡◌ {A = Option SeenAssignment} (Some (with_bytes text p)) (Some a) → IsValueAsSpelled a
value_is text p a h e = let same : with_bytes text p ≡ a = cc in subst IsValueAsSpelled same h

-- of the value of a line without fault that is an assignment
pub values_read : (line : Bytes) → IsFaultless line → ForSome (assignment_of (text_of_line line)) IsValueAsSpelled
values_read line r a h =
    let text = text_of_line line in
    let name = after_run is_blank 0 (units text) in
    let past_name = after_run is_name_unit name.place name.units in
    let sign = after_run is_blank past_name.place past_name.units in
    let at_sign = past_run text is_blank past_name.units past_name.place
    (past_run text is_name_unit name.units name.place (past_run text is_blank (units text) 0 (remains_all text (faultless_units line r)))) in
    elim (cases_Bool (nat_lt name.place past_name.place && begins_with_equals sign.units)) [
      | inl t ↦
          let equals = (and_parts (nat_lt name.place past_name.place) (begins_with_equals sign.units) t).1 in
          let value = past_run text is_blank (tail_units sign.units) (sign.place + 1) (past_equals text sign.units sign.place equals at_sign) in
          value_is text _ a (rest_read text _ _ value) (rw t at h)
      | inr f ↦ absurd (let x : ◌≡◌ {A = Option SeenAssignment} None (Some a) = rw f at h in cc)
    ]
