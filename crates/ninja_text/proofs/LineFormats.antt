-- The laws of a format whose lines and ends are decided: a text stands for one value or has one fault, and not both.
use Rattle.ninja_text.specs.Bytes.{Bytes}
use Rattle.std.proofs.Common.{inl, inr, ◌⊎◌, ◌≡◌, ℕ, List, [], ◌∷◌, ◌++◌, None, refl, sym, ap, ◌∙◌, subst, append_assoc}
use Rattle.std.specs.List.{flat_map, AllByRecursion}
use Rattle.std.proofs.lemmas.List.{append-nil}
use Rattle.std.proofs.lemmas.Grind.{flat_map-append}
use Rattle.ninja_text.specs.Lines.{line_end, IsLine, Divides, text_of_line, is_comment, number_after}
use Rattle.ninja_text.specs.LineFormats.{LineFormat, LineFaults, IsOfClass, AreOfClasses, Begins, StandsForValue, FaultyLine, FaultyEnd, HasFault, IsDecided}
use Rattle.ninja_text.proofs.Lists.{same_cons}
use Rattle.ninja_text.proofs.CutLemmas.{AllByRecursion-append, divides_one, divides_some}

-- the lines continue after these, this one, and perhaps more
abbrev GoesBeyond : List Bytes → Bytes → List Bytes → Type 0
GoesBeyond before line lines = (more : List Bytes) × (lines ≡ (before ++ line ∷ []) ++ more)

-- of two beginnings of the same lines, each up to a line, both are the same, or one goes beyond the other
meet : (xs ys : List Bytes) (a b : Bytes) (ms ns : List Bytes) → (xs ++ a ∷ []) ++ ms ≡ (ys ++ b ∷ []) ++ ns →
    ((xs ≡ ys) × (a ≡ b)) ⊎ (GoesBeyond xs a ys ⊎ GoesBeyond ys b xs)
meet [] [] a b ms ns h =
    let same : a ∷ ms ≡ b ∷ ns = h in
    let line : a ≡ b = cc in
    inl (refl, line)
meet [] (y ∷ ys) a b ms ns h =
    let same : a ∷ ms ≡ y ∷ ((ys ++ b ∷ []) ++ ns) = h in
    let lines : y ∷ ys ≡ a ∷ ys = cc in
    inr (inl (ys, lines))
meet (x ∷ xs) [] a b ms ns h =
    let same : x ∷ ((xs ++ a ∷ []) ++ ms) ≡ b ∷ ns = h in
    let lines : x ∷ xs ≡ b ∷ xs = cc in
    inr (inr (xs, lines))
meet (x ∷ xs) (y ∷ ys) a b ms ns h =
    let same : x ∷ ((xs ++ a ∷ []) ++ ms) ≡ y ∷ ((ys ++ b ∷ []) ++ ns) = h in
    let first : x ≡ y = cc in
    let rest : (xs ++ a ∷ []) ++ ms ≡ (ys ++ b ∷ []) ++ ns = cc in
    elim (meet xs ys a b ms ns rest) [
      | inl s ↦ inl (same_cons first s.0, s.1)
      | inr d ↦ elim d [
        | inl w ↦ inr (inl (w.0, same_cons (sym first) w.1))
        | inr w ↦ inr (inr (w.0, same_cons first w.1))
      ]
    ]

-- the bytes of lines one after another, and of one line more
more_lines : (lines more : List Bytes) (bytes after rest : Bytes) → bytes ≡ flat_map (λ l. l) lines ++ after → after ≡ flat_map (λ l. l) more ++ rest →
    bytes ≡ flat_map (λ l. l) (lines ++ more) ++ rest
more_lines lines more bytes after rest h k =
    h ∙ ap (λ x. flat_map (λ l. l) lines ++ x) k ∙ sym (append_assoc (flat_map (λ l. l) lines) (flat_map (λ l. l) more) rest) ∙
    ap (λ x. x ++ rest) (sym (flat_map-append (λ l. l) lines more))

pub one_more_line : (lines : List Bytes) (line bytes after rest : Bytes) → bytes ≡ flat_map (λ l. l) lines ++ after → after ≡ line ++ rest →
    bytes ≡ flat_map (λ l. l) (lines ++ line ∷ []) ++ rest
one_more_line lines line bytes after rest h k = more_lines lines (line ∷ []) bytes after rest h (k ∙ ap (λ x. x ++ rest) (sym (append-nil line)))

module _ {C V : Type 0} (format : LineFormat C V) where
  -- lines of some classes, and after them lines of others
  pub AreOfClasses-append : (ls ms : List Bytes) (cs ds : List C) → AreOfClasses format ls cs → AreOfClasses format ms ds →
      AreOfClasses format (ls ++ ms) (cs ++ ds)
  AreOfClasses-append [] ms [] ds p q = q
  AreOfClasses-append [] ms (c ∷ cs) ds p q = absurd p
  AreOfClasses-append (l ∷ ls) ms [] ds p q = absurd p
  AreOfClasses-append (l ∷ ls) ms (c ∷ cs) ds p q = (p.0, AreOfClasses-append ls ms cs ds p.1 q)

  module _ {F : Type 0} (faults : LineFaults C F) (decided : IsDecided format faults) where
    -- lines are of one list of classes at most
    classes_one : (lines : List Bytes) (cs ds : List C) → AreOfClasses format lines cs → AreOfClasses format lines ds → cs ≡ ds
    classes_one [] [] [] p q = refl
    classes_one [] (c ∷ cs) ds p q = absurd p
    classes_one [] [] (d ∷ ds) p q = absurd q
    classes_one (l ∷ lines) [] ds p q = absurd p
    classes_one (l ∷ lines) (c ∷ cs) [] p q = absurd q
    classes_one (l ∷ lines) (c ∷ cs) (d ∷ ds) p q =
        same_cons (decided.one_class (text_of_line l) (is_comment l) c d p.0.1 q.0.1) (classes_one lines cs ds p.1 q.1)

    -- a text stands for one value at most
    pub one_value : (bytes : Bytes) (v w : V) → StandsForValue format bytes v → StandsForValue format bytes w → v ≡ w
    one_value bytes v w a b =
        let same = (divides_one bytes a.lines b.lines [] [] a.divided b.divided).0 in
        let classes = classes_one b.lines a.classes b.classes (subst (λ ls. AreOfClasses format ls a.classes) same a.classed) b.classed in
        decided.one_value b.classes v w (subst (λ cs. format.grammar cs v) classes a.grammar) b.grammar

    -- the classes of all lines continue from those before a line
    record Split (line : Bytes) (cs ds : List C) : Type 0 where
      class : C
      more : List C
      is : IsOfClass format line class
      are : cs ≡ (ds ++ class ∷ []) ++ more

    split_classes : (before : List Bytes) (line : Bytes) (after : List Bytes) (cs ds : List C) →
        AreOfClasses format ((before ++ line ∷ []) ++ after) cs → AreOfClasses format before ds → Split line cs ds
    split_classes [] line after [] ds p q = absurd p
    split_classes [] line after (c ∷ cs) [] p q = record { class = c; more = cs; is = p.0; are = refl }
    split_classes [] line after (c ∷ cs) (d ∷ ds) p q = absurd q
    split_classes (l ∷ before) line after [] ds p q = absurd p
    split_classes (l ∷ before) line after (c ∷ cs) [] p q = absurd q
    split_classes (l ∷ before) line after (c ∷ cs) (d ∷ ds) p q =
        let later = split_classes before line after cs ds p.1 q.1 in
        record {
          class = later.class;
          more = later.more;
          is = later.is;
          are = same_cons (decided.one_class (text_of_line l) (is_comment l) c d p.0.1 q.0.1) later.are;
        }

    -- the lines of a text with a faulty one
    faulty_lines : (bytes : Bytes) (n : ℕ) (fault : F) (f : FaultyLine format faults bytes n fault) →
        (lines : List Bytes) × (rest : Bytes) × GoesBeyond f.before f.line lines × Divides bytes lines rest
    faulty_lines bytes n fault f =
        let d = divides_some f.after in
        let front = f.before ++ f.line ∷ [] in (
          front ++ d.0,
          d.1,
          (d.0, refl),
          record {
            whole = more_lines front d.0 bytes f.after d.1 f.whole (d.2).whole;
            each = AllByRecursion-append IsLine front d.0 f.each (d.2).each;
            partial = (d.2).partial;
          },
        )

    -- no line is faulty among those with which some text begins
    begun_not_faulty : (bytes : Bytes) (n : ℕ) (fault : F) (f : FaultyLine format faults bytes n fault) (lines : List Bytes) (classes : List C)
        → GoesBeyond f.before f.line lines → AreOfClasses format lines classes → Begins format classes → ⊥
    begun_not_faulty bytes n fault f lines classes (more, are) classed begun =
        let s = split_classes f.before f.line more classes f.classes (subst (λ ls. AreOfClasses format ls classes) are classed) f.classed in
        let longer : classes ++ begun.0 ≡ (f.classes ++ s.class ∷ []) ++ (s.more ++ begun.0) = ap (λ cs. cs ++ begun.0) s.are ∙
        append_assoc (f.classes ++ s.class ∷ []) s.more begun.0 in
        f.faulty s.class s.is (s.more ++ begun.0, begun.1, subst (λ cs. format.grammar cs begun.1) longer begun.2)

    -- so a text that begins with all of them has no faulty line
    pub no_faulty_line : (bytes : Bytes) (n : ℕ) (fault : F) (lines : List Bytes) (rest : Bytes) (classes : List C)
        → Divides bytes lines rest → AreOfClasses format lines classes → Begins format classes → FaultyLine format faults bytes n fault → ⊥
    no_faulty_line bytes n fault lines rest classes divided classed begun f =
        let d = faulty_lines bytes n fault f in
        begun_not_faulty bytes n fault f lines classes (d.2.0, (divides_one bytes lines d.0 rest d.1 divided d.3).0 ∙ d.2.1) classed begun

    -- a text that stands for something has no fault
    pub not_both : (bytes : Bytes) (v : V) (n : ℕ) (fault : F) → StandsForValue format bytes v → HasFault format faults bytes n fault → ⊥
    not_both bytes v n fault a (inl f) =
        no_faulty_line bytes n fault a.lines
        [] a.classes a.divided a.classed ([], v, subst (λ cs. format.grammar cs v) (sym (append-nil a.classes)) a.grammar) f
    not_both bytes v n fault a (inr f) =
        let same = divides_one bytes a.lines f.lines [] f.rest a.divided f.divided in
        let classes = classes_one f.lines a.classes f.classes (subst (λ ls. AreOfClasses format ls a.classes) same.0 a.classed) f.classed in
        decided.not_both_at_end f.classes v fault (subst (λ cs. format.grammar cs v) classes a.grammar)
        (subst (λ r. faults.of_end f.classes r fault) (sym same.1) f.reason)

    -- ---- a text stands for something, or has a fault

    abbrev Outcome : Bytes → Type 0
    Outcome bytes = ((value : V) × StandsForValue format bytes value) ⊎ ((n : ℕ) × (fault : F) × HasFault format faults bytes n fault)

    -- by the bytes after all lines
    at_end : (bytes : Bytes) (lines : List Bytes) (rest : Bytes) (classes : List C) → Divides bytes lines rest → AreOfClasses format lines classes →
        Begins format classes → Outcome bytes
    at_end bytes lines rest classes divided classed begun = elim (decided.end classes rest begun) [
      | inl all ↦ inl (
        all.1,
        record { lines = lines; classes = classes; divided = subst (Divides bytes lines) all.0 divided; classed = classed; grammar = all.2 },
      )
      | inr stop ↦ inr (
        number_after (flat_map (λ l. l) lines),
        stop.0,
        inr (record { lines = lines; rest = rest; classes = classes; divided = divided; classed = classed; begun = begun; number = refl; reason = stop.1 }),
      )
    ]

    -- over the lines to come
    walk : (bytes : Bytes) (lines : List Bytes) (rest : Bytes) (before : List Bytes) (classes : List C) →
        bytes ≡ flat_map (λ l. l) before ++ (flat_map (λ l. l) lines ++ rest)
        → AllByRecursion IsLine before → AllByRecursion IsLine lines → line_end rest ≡ None → AreOfClasses format before classes → Begins format classes →
        Outcome bytes
    walk bytes [] rest before classes whole each later partial classed begun =
        at_end bytes before rest classes (record { whole = whole; each = each; partial = partial }) classed begun
    walk bytes (line ∷ lines) rest before classes whole each later partial classed begun =
        let after = flat_map (λ l. l) lines ++ rest in
        let all = AllByRecursion-append IsLine before (line ∷ []) each (later.0, tt) in
        let so_far : bytes ≡ flat_map (λ l. l) (before ++ line ∷ []) ++ after =
        one_more_line before line bytes (flat_map (λ l. l) (line ∷ lines) ++ rest) after whole (append_assoc line (flat_map (λ l. l) lines) rest) in
        elim (decided.line classes line begun) [
          | inl on ↦ walk bytes lines rest (before ++ line ∷ []) (classes ++ on.0 ∷ []) so_far all later.1 partial
              (AreOfClasses-append before (line ∷ []) classes (on.0 ∷ []) classed (on.1, tt)) on.2
          | inr stop ↦ inr (
            number_after (flat_map (λ l. l) before),
            stop.0,
            inl (record {
              before = before;
              line = line;
              after = after;
              classes = classes;
              whole = so_far;
              each = all;
              classed = classed;
              begun = begun;
              faulty = stop.2;
              number = refl;
              reason = stop.1;
            }),
          )
        ]

    pub value_or_fault : (bytes : Bytes) → Outcome bytes
    value_or_fault bytes = let d = divides_some bytes in walk bytes d.0 d.1 [] [] (d.2).whole tt (d.2).each (d.2).partial tt decided.starts

    -- ---- one fault

    -- a text has one first faulty line at most
    one_line : (bytes : Bytes) (n m : ℕ) (x y : F) → FaultyLine format faults bytes n x → FaultyLine format faults bytes m y → (n ≡ m) × (x ≡ y)
    one_line bytes n m x y f g =
        let u = faulty_lines bytes n x f in
        let v = faulty_lines bytes m y g in
        let lines = (divides_one bytes u.0 v.0 u.1 v.1 u.3 v.3).0 in
        elim (meet f.before g.before f.line g.line u.2.0 v.2.0 (sym u.2.1 ∙ lines ∙ v.2.1)) [
          | inr d ↦ absurd (elim d [
            | inl w ↦ begun_not_faulty bytes n x f g.before g.classes w g.classed g.begun
            | inr w ↦
                begun_not_faulty bytes m y g f.before f.classes w f.classed f.begun
          ])
          | inl s ↦
              let classes = classes_one g.before f.classes g.classes (subst (λ ls. AreOfClasses format ls f.classes) s.0 f.classed) g.classed in (
                f.number ∙ ap (λ ls. number_after (flat_map (λ l. l) ls)) s.0 ∙ sym g.number,
                decided.one_line_fault g.classes g.line x y
                    (subst (λ cs. faults.of_line cs g.line x) classes (subst (λ l. faults.of_line f.classes l x) s.1 f.reason)) g.reason,
              )
        ]

    -- and one fault at its end
    one_end : (bytes : Bytes) (n m : ℕ) (x y : F) → FaultyEnd format faults bytes n x → FaultyEnd format faults bytes m y → (n ≡ m) × (x ≡ y)
    one_end bytes n m x y f g =
        let same = divides_one bytes f.lines g.lines f.rest g.rest f.divided g.divided in
        let classes = classes_one g.lines f.classes g.classes (subst (λ ls. AreOfClasses format ls f.classes) same.0 f.classed) g.classed in (
          f.number ∙ ap (λ ls. number_after (flat_map (λ l. l) ls)) same.0 ∙ sym g.number,
          decided.one_end_fault g.classes g.rest x y
              (subst (λ cs. faults.of_end cs g.rest x) classes (subst (λ r. faults.of_end f.classes r x) same.1 f.reason)) g.reason,
        )

    -- so it has one fault at most
    pub one_fault : (bytes : Bytes) (n m : ℕ) (x y : F) → HasFault format faults bytes n x → HasFault format faults bytes m y → (n ≡ m) × (x ≡ y)
    one_fault bytes n m x y (inl f) (inl g) = one_line bytes n m x y f g
    one_fault bytes n m x y (inl f) (inr g) = absurd (no_faulty_line bytes n x g.lines g.rest g.classes g.divided g.classed g.begun f)
    one_fault bytes n m x y (inr f) (inl g) = absurd (no_faulty_line bytes m y f.lines f.rest f.classes f.divided f.classed f.begun g)
    one_fault bytes n m x y (inr f) (inr g) = one_end bytes n m x y f g
