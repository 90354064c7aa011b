-- What bytes stand for is one value, the one that is read of them: of an escaped form, and of the value of an assignment.
use Rattle.ninja_text.specs.Bytes.{Bytes}
use Rattle.std.proofs.Common.{◌≡◌, ◌≢◌, ℕ, zero, suc, true, false, not, ◌==◌, cond, inl, inr, List, [], ◌∷◌, ◌++◌, replicate, drop, refl, sym, ◌∙◌, ap, subst, append_assoc, arith}
use Rattle.std.proofs.lemmas.Bool.{cases_Bool, eqb-true, or_parts, not-true}
use Rattle.std.proofs.lemmas.List.{append-nil}
use Rattle.std.proofs.lemmas.List.Elements.{recursion_from_All}
use Rattle.std.specs.List.{concat, AllByRecursion}
use Rattle.ninja_text.specs.Tokens.{value_of}
use Rattle.ninja_text.specs.inner.Runs.{spaces_at}
use Rattle.ninja_text.specs.Escapes.{is_unwritable, IsWritable, is_escaped, escaped_byte, escaped, IsPiece, IsContinuation, IsGap, Spells}
use Rattle.ninja_text.specs.Meanings.{IsValuePiece, SpellsValue}
use Rattle.ninja_text.proofs.ReducedList.{either_way, is_true, true_is}
use Rattle.ninja_text.proofs.Units.{units_byte, units_pair, units_feed, continued_spaces}

-- ---- what is read of gaps

-- all spaces at the front, and what follows them
past_spaces : (n : ℕ) (text : Bytes) → spaces_at text ≡ 0 → drop (spaces_at (replicate n 32 ++ text)) (replicate n 32 ++ text) ≡ text
past_spaces zero text none = ap (λ k. drop k text) none
past_spaces (suc n) text none = grind (arith, replicate, drop, past_spaces n text none)

-- nothing is read of a continuation
continuation_read : (part : Bytes) (c : IsContinuation part) (text : Bytes) → spaces_at text ≡ 0 → value_of (part ++ text) ≡ value_of text
continuation_read part c text none = grind (arith, replicate, units_feed, continued_spaces, past_spaces)

-- a gap does not begin with a space
gap_front : (parts : List Bytes) (text : Bytes) → AllByRecursion IsContinuation parts → spaces_at text ≡ 0 → spaces_at (concat parts ++ text) ≡ 0
gap_front [] text a none = none
gap_front (part ∷ parts) text a none = elim a.0.1 [
  | inl e ↦ ap (λ part. spaces_at ((part ++ concat parts) ++ text)) e
  | inr e ↦ ap (λ part. spaces_at ((part ++ concat parts) ++ text)) e
]

parts_read : (parts : List Bytes) (text : Bytes) → AllByRecursion IsContinuation parts → spaces_at text ≡ 0 →
    value_of (concat parts ++ text) ≡ value_of text
parts_read [] text a none = refl
parts_read (part ∷ parts) text a none = grind (arith, append_assoc, continuation_read, gap_front, parts_read parts text a.1 none)

-- so nothing is read of a gap
gap_read : (gap text : Bytes) → IsGap gap → spaces_at text ≡ 0 → value_of (gap ++ text) ≡ value_of text
gap_read gap text g none = grind (arith, parts_read)

-- ---- what is read of pieces

-- an escaped byte is not one that needs no escape
differs : (b n : ℕ) → is_escaped b ≡ true → is_escaped n ≡ false → (b == n) ≡ false
differs b n h k = grind (arith, cases_Bool, eqb-true)

-- a piece stands for its byte
piece_read : (piece text : Bytes) (value : ℕ) → IsValuePiece piece value → value_of (piece ++ text) ≡ value ∷ value_of text
piece_read [] text value h = absurd h
piece_read (b ∷ []) text value h = grind (arith, units_byte, or_parts, not-true, true_is)
piece_read (d ∷ b ∷ []) text value h = grind (arith, true_is, units_pair, differs)
piece_read (d ∷ b ∷ c ∷ more) text value h = absurd h

-- ---- words

-- a piece of a word is a piece of a value, and does not begin with a space
word_piece : (piece text : Bytes) (value : ℕ) → IsPiece piece value → IsValuePiece piece value × (spaces_at (piece ++ text) ≡ 0)
word_piece [] text value h = absurd h
word_piece (b ∷ []) text value h = grind (arith, or_parts, not-true, true_is, is_true, cond)
word_piece (d ∷ b ∷ []) text value h = (h, ap (λ d. spaces_at (d ∷ b ∷ text)) h.0)
word_piece (d ∷ b ∷ c ∷ more) text value h = absurd h

word_front : (raw : Bytes) (b : ℕ) (bs : Bytes) → Spells raw (b ∷ bs) → spaces_at raw ≡ 0
word_front raw b [] h = ap spaces_at (sym (append-nil raw)) ∙ (word_piece raw [] b h).1
word_front raw b (c ∷ cs) h = ap spaces_at h.6 ∙ (word_piece h.0 (h.1 ++ h.2) b h.3).1

-- what is read of a word's bytes is what they stand for
pub spells_read : (raw value : Bytes) → Spells raw value → value_of raw ≡ value
spells_read raw [] h = absurd h
spells_read raw (b ∷ []) h = grind (arith, append-nil, piece_read, word_piece)
spells_read raw (b ∷ c ∷ cs) h =
    ap value_of h.6 ∙ piece_read h.0 (h.1 ++ h.2) b (word_piece h.0 [] b h.3).0
    ∙ ap (λ value. b ∷ value) (gap_read h.1 h.2 h.4 (word_front h.2 c cs h.5) ∙ spells_read h.2 (c ∷ cs) h.5)

-- so they stand for one value
pub spells-same : (raw a b : Bytes) → Spells raw a → Spells raw b → a ≡ b
spells-same raw a b h k = sym (spells_read raw a h) ∙ spells_read raw b k

-- ---- what `escape_into` writes

-- a byte in its escaped form is a piece that stands for it
piece-is : (b : ℕ) → is_unwritable b ≡ false → IsPiece (escaped_byte b) b
piece-is b h = grind (arith, either_way, cond, is_true, not)

-- a path in its escaped form stands for the path
pub escaped-spells : (path : Bytes) → path ≢ [] → AllByRecursion (λ b. is_unwritable b ≡ false) path → Spells (escaped path) path
escaped-spells [] some clean = absurd (some refl)
escaped-spells (b ∷ []) some clean = subst (λ l. IsPiece l b) (sym (append-nil (escaped_byte b))) (piece-is b clean.0)
escaped-spells (b ∷ c ∷ cs) some clean =
    (escaped_byte b, [], escaped (c ∷ cs), piece-is b clean.0, ([], tt, refl), escaped-spells (c ∷ cs) (λ h. cc) clean.1, refl)

-- and for nothing else
pub escaped-means : (path : Bytes) → IsWritable path → (value : Bytes) →
    (Spells (escaped path) value → value ≡ path) × (value ≡ path → Spells (escaped path) value)
escaped-means path w value =
    let s = escaped-spells path w.some (recursion_from_All (λ b. is_unwritable b ≡ false) path w.each) in
    (λ t. spells-same (escaped path) value path t s, λ e. subst (λ v. Spells (escaped path) v) (sym e) s)

-- ---- the values of assignments

-- nothing is read of the gap before a piece: the piece is no space if there is one
gap_before : (gap piece text : Bytes) (value : ℕ) → IsGap gap → IsValuePiece piece value → (piece ≡ 32 ∷ [] → gap ≡ []) →
    value_of (gap ++ (piece ++ text)) ≡ value_of (piece ++ text)
gap_before gap [] text value g h space = absurd h
gap_before gap (b ∷ []) text value g h space = grind (arith, cases_Bool, eqb-true, gap_read, cond)
gap_before gap (d ∷ b ∷ []) text value g h space = grind (arith, gap_read)
gap_before gap (d ∷ b ∷ c ∷ more) text value g h space = absurd h

-- what is read of a value's bytes is what they stand for
value_read : (raw value : Bytes) → SpellsValue raw value → value_of raw ≡ value
value_read raw [] h = ap value_of (sym (append-nil raw)) ∙ gap_read raw [] h refl
value_read raw (b ∷ bs) h = grind (arith, gap_before, piece_read, value_read h.2 bs h.6)

-- so they stand for one value
pub value_same : (raw a b : Bytes) → SpellsValue raw a → SpellsValue raw b → a ≡ b
value_same raw a b h k = sym (value_read raw a h) ∙ value_read raw b k
