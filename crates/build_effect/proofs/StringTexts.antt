-- The strings of a build line, one after another in one text.
use Rattle.std.proofs.Common.{◌≡◌, ◌≢◌, ◌∙◌, ℕ, ◌+◌, ◌-◌, ◌≤◌, ◌<◌, suc, get_or, List, [], ◌∷◌, ◌++◌, length, map, take, drop, refl, sym, ap, subst, arith, append_assoc, length-append, length-drop}
use Rattle.std.proofs.lemmas.List.{append-nil, map-append, take-append-le, drop-append-le, take_all, take_at, drop_at, take-map, drop-map}
use Rattle.std.proofs.lemmas.List.Elements.{All-push}
use Rattle.std.proofs.Math.Seq.{drop-cons}
use Rattle.build_effect.specs.Prelude.{slice_range, text_of, texts_of, IsWithin, AreWithin, AreEnds, edge_texts_of, Span}

module _ (text more : List ℕ) where
  -- a part of the text stays the same if the text continues after it
  kept : {span : Span} → IsWithin text span → text_of (text ++ more) span ≡ text_of text span
  kept {span} within =
      let room : span.end - span.start ≤ length (drop span.start text) = omega (arith, within, length-drop span.start text) in
      ap (take (span.end - span.start)) (drop-append-le span.start text more (omega (arith, within)))
      ∙ take-append-le (span.end - span.start) (drop span.start text) more room

  all_kept : (spans : List Span) → AreWithin text spans → texts_of (text ++ more) spans ≡ texts_of text spans
  all_kept [] within = refl
  all_kept (span ∷ spans) within =
      rw (kept (within 0 span (omega arith)), all_kept spans (λ k d lt. within (suc k) d (omega arith))) refl

  -- and it is still within the text
  pub still_within : {all : List ℕ} (spans : List Span) → all ≡ text ++ more → AreWithin text spans → AreWithin all spans
  still_within spans longer within k d lt =
      let is = within k d lt in (is.0, omega (arith, is, ap length longer, length-append text more))

module _ (text value all : List ℕ) (spans : List Span) (span : Span) (within : AreWithin text spans) (longer : all ≡ text ++ value)
    (start : span.start ≡ length text) (end : span.end ≡ length all) where
  long : length all ≡ length text + length value
  long = ap length longer ∙ length-append text value

  -- the new part is the value that was appended
  pub texts_push : texts_of all (spans ++ span ∷ []) ≡ texts_of text spans ++ value ∷ []
  texts_push =
      map-append (text_of all) spans (span ∷ []) ∙ ap (λ t. texts_of t spans ++ text_of all span ∷ []) longer
      ∙ ap (λ ts. ts ++ text_of all span ∷ []) (all_kept text value spans within)
      ∙ ap (λ t. texts_of text spans ++ t ∷ []) last
    where
      last : text_of all span ≡ value
      last =
          ap (λ t. take (span.end - span.start) (drop span.start t)) longer ∙ ap (take (span.end - span.start)) (drop_at text value span.start (sym start))
          ∙ take_all (span.end - span.start) value (omega (arith, start, end, long))

  -- and lies within the text
  pub within_push : AreWithin all (spans ++ span ∷ [])
  within_push = All-push (IsWithin all) spans span (still_within text value spans longer within) (omega (arith, start, end, long), omega (arith, end))

-- a whole list
pub whole_range : {X : Type 0} (xs : List X) {to : ℕ} → to ≡ length xs → slice_range xs 0 to ≡ xs
whole_range xs {to} end = take_all (to - 0) xs (omega (arith, end))

-- a part of a mapped list
pub range_map : {X Y : Type 0} (f : X → Y) (xs : List X) (from to : ℕ) → slice_range (map f xs) from to ≡ map f (slice_range xs from to)
range_map f xs from to = ap (take (to - from)) (drop-map f from xs) ∙ take-map f (to - from) (drop from xs)

-- a part of a list begins with the element at its first index
pub range_next : (xs : List (List ℕ)) (index next to : ℕ) → next ≡ index + 1 → index < to → index < length xs
    → slice_range xs index to ≡ get_or xs index [] ∷ slice_range xs next to
range_next xs index next to is before within =
    let one_less : to - index ≡ suc (to - suc index) = omega (arith, before) in
    let one_more : suc index ≡ next = omega (arith, is) in
    subst (λ k. slice_range xs index to ≡ get_or xs index [] ∷ slice_range xs k to) one_more
    (ap (take (to - index)) (drop-cons xs index [] within) ∙ ap (λ n. take n (get_or xs index [] ∷ drop (suc index) xs)) one_less)

-- ---- the five lists of a build line

-- a list between two others
pub between : {joined all : List (List ℕ)} {from to : ℕ} (before part after : List (List ℕ)) → joined ≡ before ++ part → all ≡ joined ++ after →
    from ≡ length before → to ≡ length joined
    → slice_range all from to ≡ part
between {joined} {all} {from} {to} before part after both whole start end =
    ap (λ xs. take (to - from) (drop from xs)) (whole ∙ ap (λ xs. xs ++ after) both ∙ append_assoc before part after)
    ∙ ap (take (to - from)) (drop_at before (part ++ after) from (sym start))
    ∙ take_at part after (to - from) (omega (arith, start, end, ap length both, length-append before part))

-- what follows one list less
longer : {joined all : List (List ℕ)} (before part after : List (List ℕ)) → joined ≡ before ++ part → all ≡ joined ++ after → all ≡ before ++ (part ++ after)
longer before part after both whole = whole ∙ ap (λ xs. xs ++ after) both ∙ append_assoc before part after

-- a list ends after the one before it
later : {joined : List (List ℕ)} {from to : ℕ} (before part : List (List ℕ)) → joined ≡ before ++ part → from ≡ length before → to ≡ length joined → from ≤ to
later before part both start end = omega (arith, start, end, ap length both, length-append before part)

-- the strings are these five lists, which end there
pub record AreParts (all o i n m l : List (List ℕ)) (a b c d : ℕ) : Type 0 where
  pub texts : (rule : List ℕ) → edge_texts_of rule all a b c d ≡ record {
    rule = rule;
    outputs = o;
    implicit_outputs = i;
    inputs = n;
    implicit_inputs = m;
    order_only = l;
  }
  pub sound : o ≢ [] → AreEnds all a b c d

-- how many strings there are after the first list
pub counted : {s0 s1 : List (List ℕ)} {a : ℕ} (o : List (List ℕ)) → s0 ≡ [] → s1 ≡ s0 ++ o → a ≡ length s1 → a ≡ length o
counted o none is a = a ∙ ap length (is ∙ ap (λ s. s ++ o) none)

pub parts_are : {s0 s1 s2 s3 s4 s5 : List (List ℕ)} {a b c d : ℕ} (o i n m l : List (List ℕ)) → s0 ≡ [] → s1 ≡ s0 ++ o → a ≡ length s1 → s2 ≡ s1 ++ i →
    b ≡ length s2
    → s3 ≡ s2 ++ n → c ≡ length s3 → s4 ≡ s3 ++ m → d ≡ length s4 → s5 ≡ s4 ++ l
    → AreParts s5 o i n m l a b c d
parts_are {s0} {s1} {s2} {s3} {s4} {s5} o i n m l none e1 a e2 b e3 c e4 d e5 =
    let from_m = longer s3 m l e4 e5 in
    let from_n = longer s2 n (m ++ l) e3 from_m in
    let from_i = longer s1 i (n ++ (m ++ l)) e2 from_n in
    let first = between s0 o (i ++ (n ++ (m ++ l))) e1 from_i (ap length (sym none)) a in
    record {
      texts = λ rule. rw (
        first,
        between s1 i (n ++ (m ++ l)) e2 from_n a b,
        between s2 n (m ++ l) e3 from_m b c,
        between s3 m l e4 e5 c d,
        between {joined = s5} s4 l [] e5 (sym (append-nil s5)) d refl,
      ) refl;
      sound = λ some. record {
        some = λ empty. some (sym first ∙ empty);
        after_outputs = later s1 i e2 a b;
        after_implicit_outputs = later s2 n e3 b c;
        after_inputs = later s3 m e4 c d;
        within = later s4 l e5 d refl;
      };
    }
