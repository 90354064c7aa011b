-- Lists of components, written out with a slash between each two.
use Rattle.ninja_text.specs.Bytes.{Bytes}
use Rattle.std.proofs.Common.{◌≡◌, ◌≢◌, ℕ, zero, suc, ◌+◌, ◌-◌, ◌<◌, ◌≤◌, Bool, true, false, ◌&&◌, Some, None, ◌⊎◌, inl, inr, [], ◌∷◌, ◌++◌, length, take, drop, get_or, refl, sym, ◌∙◌, ap, subst, append_assoc, arith, length-append}
use Rattle.std.proofs.lemmas.List.{get_or-append-add}
use Rattle.std.proofs.Math.Seq.{take-append_seam, drop-append_seam}
use Rattle.std.specs.List.{AllByRecursion}
use Rattle.ninja_text.proofs.ReducedList.{IsFixed, name-of, reduced-fixed, reduced-each, behind-pair, behind-none, behind-stays, parent-not-name}
use Rattle.ninja_text.proofs.Lists.{to_the_end}
use Rattle.ninja_text.specs.Reduction.{is_current, is_parent, is_named_component, reduced}
use Rattle.ninja_text.specs.inner.ComponentLists.{Components, list_text, appended, LacksSlash, EachLacksSlash}

-- the last component, or none
pub ends : (l : Components) → (l ≡ []) ⊎ ((init : Components) × (last : Bytes) × (l ≡ init ++ last ∷ []))
ends [] = inl refl
ends (c ∷ cs) = elim (ends cs) [ inl h ↦ inr ([], c, ap (λ l. c ∷ l) h) | inr w ↦ inr (c ∷ w.0, w.1, ap (λ l. c ∷ l) w.2) ]

-- a component after a list is written after it and a slash
pub list_text-behind : (x : Bytes) (xs : Components) (c : Bytes) → list_text ((x ∷ xs) ++ c ∷ []) ≡ list_text (x ∷ xs) ++ 47 ∷ c
list_text-behind x [] c = refl
list_text-behind x (y ∷ ys) c = grind (arith, list_text-behind y ys c, append_assoc)

-- a component after a list whose first component is not empty
pub list_text-appended : (x : Bytes) (xs : Components) (c : Bytes) → is_current x ≡ false →
    list_text ((x ∷ xs) ++ c ∷ []) ≡ appended (list_text (x ∷ xs)) c
list_text-appended [] xs c h = cc
list_text-appended (b ∷ bs) [] c h = refl
list_text-appended (b ∷ bs) (y ∷ ys) c h = simp (list_text-behind)

-- ---- the start of the last component

-- no byte of a component is a slash
lacks-at : (l : Bytes) (k : ℕ) → LacksSlash l → k < length l → get_or l k 0 ≢ 47
lacks-at [] k h lt e = absurd (omega arith)
lacks-at (b ∷ bs) zero h lt e = cc
lacks-at (b ∷ bs) (suc k) h lt e = lacks-at bs k h.1 (omega arith) e

-- the part of a list in front of its last component
abbrev pub up_to_last : Components → Bytes
up_to_last [] = []
up_to_last (x ∷ xs) = list_text (x ∷ xs) ++ 47 ∷ []

-- a list is written as what is in front of its last component, and that component
pub list_text-last : (init : Components) (last : Bytes) → list_text (init ++ last ∷ []) ≡ up_to_last init ++ last
list_text-last [] last = refl
list_text-last (x ∷ xs) last = grind (arith, list_text-behind, append_assoc)

-- the index after the last slash is the start of the last component
not-after : (p last : Bytes) (start : ℕ) → LacksSlash last → start ≤ length (p ++ last) → (0 < start → get_or (p ++ last) (start - 1) 0 ≡ 47) →
    length p < start → ⊥
not-after p last start h bound slash lt =
    let k : ℕ = start - 1 - length p in
    let at : start - 1 ≡ length p + k = omega arith in
    let total : length (p ++ last) ≡ length p + length last = length-append p last in
    let e : get_or last k 0 ≡ 47 = sym (get_or-append-add p last k 0) ∙ ap (λ i. get_or (p ++ last) i 0) (sym at) ∙ slash (omega arith) in
    lacks-at last k h (omega arith) e

-- nor can the last component begin before the last slash
not-before : (q last : Bytes) (start : ℕ) → ((k : ℕ) → start ≤ k → k < length ((q ++ 47 ∷ []) ++ last) → get_or ((q ++ 47 ∷ []) ++ last) k 0 ≢ 47) →
    start ≤ length q → ⊥
not-before q last start rest le =
    let e : (q ++ 47 ∷ []) ++ last ≡ q ++ 47 ∷ last = append_assoc q (47 ∷ []) last in
    let at : get_or (q ++ 47 ∷ last) (length q + 0) 0 ≡ 47 = get_or-append-add q (47 ∷ last) 0 0 in
    let total : length ((q ++ 47 ∷ []) ++ last) ≡ length q + (1 + length last) = ap length e ∙ length-append q (47 ∷ last) ∙ omega arith in
    rest (length q + 0) (omega arith) (omega arith) (ap (λ l. get_or l (length q + 0) 0) e ∙ at)

-- so the last component begins there
pub start-is : (init : Components) (last : Bytes) (start : ℕ) → LacksSlash last
    → start ≤ length (up_to_last init ++ last)
    → (0 < start → get_or (up_to_last init ++ last) (start - 1) 0 ≡ 47)
    → ((k : ℕ) → start ≤ k → k < length (up_to_last init ++ last) → get_or (up_to_last init ++ last) k 0 ≢ 47)
    → start ≡ length (up_to_last init)
start-is [] last start h bound slash rest = let no = not-after [] last start h bound slash in omega arith
start-is (x ∷ xs) last start h bound slash rest =
    let no = not-after (up_to_last (x ∷ xs)) last start h bound slash in
    let nor = not-before (list_text (x ∷ xs)) last start rest in
    let total : length (up_to_last (x ∷ xs)) ≡ length (list_text (x ∷ xs)) + 1 = length-append (list_text (x ∷ xs)) (47 ∷ []) in
    omega arith

-- what is left in front of the last component, without the slash
pub without-last : (init : Components) (last : Bytes) → take (length (up_to_last init) - 1) (up_to_last init ++ last) ≡ list_text init
without-last [] last = refl
without-last (x ∷ xs) last =
    let t = list_text (x ∷ xs) in
    let total : length (up_to_last (x ∷ xs)) - 1 ≡ length t = ap (λ n. n - 1) (length-append t (47 ∷ [])) ∙ omega arith in
    ap (λ n. take n (up_to_last (x ∷ xs) ++ last)) total ∙ ap (take (length t)) (append_assoc t (47 ∷ []) last) ∙ take-append_seam t (47 ∷ last)

-- the same of a list that is given otherwise
pub start-of : (list : Bytes) (init : Components) (last : Bytes) (start : ℕ) → list ≡ list_text (init ++ last ∷ []) → LacksSlash last
    → start ≤ length list
    → (0 < start → get_or list (start - 1) 0 ≡ 47)
    → ((k : ℕ) → start ≤ k → k < length list → get_or list k 0 ≢ 47)
    → start ≡ length (up_to_last init)
start-of list init last start e h bound slash rest =
    let P : Bytes → Type 0 = λ l. (start ≤ length l) × (0 < start → get_or l (start - 1) 0 ≡ 47) × ((k : ℕ) → start ≤ k → k < length l → get_or l k 0 ≢ 47) in
    let f : P (up_to_last init ++ last) = subst P (e ∙ list_text-last init last) (bound, slash, rest) in
    start-is init last start h f.0 f.1 f.2

-- what follows from there on is the last component
pub last-of : (list : Bytes) (init : Components) (last : Bytes) (start : ℕ) → list ≡ list_text (init ++ last ∷ []) → start ≡ length (up_to_last init) →
    take (length list - start) (drop start list) ≡ last
last-of list init last start e s = grind (arith, to_the_end, drop, list_text-last, drop-append_seam)

-- what is before the slash in front of it is the rest of the list
pub init-of : (list : Bytes) (init : Components) (last : Bytes) (start n : ℕ) → list ≡ list_text (init ++ last ∷ []) → start ≡ length (up_to_last init) →
    n ≡ start - 1 → take n list ≡ list_text init
init-of list init last start n e s k = grind (arith, take, list_text-last, without-last)

-- the last component is not empty
pub not-all : (list : Bytes) (init : Components) (last : Bytes) (start : ℕ) → list ≡ list_text (init ++ last ∷ []) → start ≡ length (up_to_last init) →
    is_current last ≡ false → start ≡ length list → ⊥
not-all list init [] start e s h k = cc
not-all list init (b ∷ bs) start e s h k = grind (arith, length, list_text-last, length-append)

-- ---- a component after a canonical list

-- the last component of a canonical list is not empty and no `.`
fixed-last : (init : Components) (last : Bytes) → IsFixed (init ++ last ∷ []) → is_current last ≡ false
fixed-last [] last f = f
fixed-last (a ∷ []) last f = f.2
fixed-last (a ∷ b ∷ init) last f = fixed-last (b ∷ init) last f.2

-- what holds of each component holds of the last
each-last : (P : Bytes → Type 0) (init : Components) (last : Bytes) → AllByRecursion P (init ++ last ∷ []) → P last
each-last P [] last a = a.0
each-last P (x ∷ init) last a = each-last P init last a.1

-- the first component of a canonical list is not empty and no `.`
fixed-first : (x : Bytes) (xs : Components) → IsFixed (x ∷ xs) → is_current x ≡ false
fixed-first x [] f = f
fixed-first x (y ∷ ys) f = f.0

-- a component that goes after a canonical list as it is
list_text-fixed : (init : Components) (last c : Bytes) → IsFixed (init ++ last ∷ []) →
    list_text (init ++ last ∷ c ∷ []) ≡ appended (list_text (init ++ last ∷ [])) c
list_text-fixed [] last c f = list_text-appended last [] c (fixed-first last [] f)
list_text-fixed (a ∷ init) last c f =
    ap list_text (sym (append_assoc (a ∷ init) (last ∷ []) (c ∷ []))) ∙ list_text-appended a (init ++ last ∷ []) c (fixed-first a (init ++ last ∷ []) f)

-- what is no `..` makes no pair
none-parent : (n u : Bool) → u ≡ false → (n && u) ≡ false
none-parent true u h = h
none-parent false u h = refl

-- `..` after a list that ends in a name
pub put-parent : (before : Components) (c list : Bytes) (n : ℕ) → EachLacksSlash before → list ≡ list_text (reduced before) → is_parent c ≡ true
    → (list ≡ [] → Some n ≡ None)
    → ((init : Components) (last : Bytes) → LacksSlash last → is_current last ≡ false → list ≡ list_text (init ++ last ∷ []) →
    (is_parent last ≡ false) × (take n list ≡ list_text init))
    → take n list ≡ list_text (reduced (before ++ c ∷ []))
put-parent before c list n each e goes_up empty parent =
    elim (ends (reduced before)) [
      | inl h ↦ let no : Some n ≡ None = empty (e ∙ ap list_text h) in cc
      | inr w ↦
          let fixed : IsFixed (w.0 ++ w.1 ∷ []) = subst IsFixed w.2 (reduced-fixed before) in
          let lacks : LacksSlash w.1 = each-last LacksSlash w.0 w.1 (subst EachLacksSlash w.2 (reduced-each LacksSlash before each)) in
          let not_current = fixed-last w.0 w.1 fixed in
          let p = parent w.0 w.1 lacks not_current (e ∙ ap list_text w.2) in
          p.1 ∙ ap list_text (sym (behind-pair before w.0 w.1 c w.2 (name-of (is_current w.1) (is_parent w.1) not_current p.0) goes_up))
    ]

-- any other component, and `..` after a list that does not end in a name
pub put-behind : (before : Components) (c list new : Bytes) → EachLacksSlash before → list ≡ list_text (reduced before) → is_current c ≡ false
    → (is_parent c ≡ false) ⊎
    ((init : Components) (last : Bytes) → LacksSlash last → is_current last ≡ false → list ≡ list_text (init ++ last ∷ []) → is_parent last ≡ true)
    → new ≡ appended list c
    → new ≡ list_text (reduced (before ++ c ∷ []))
put-behind before c list new each e not_current no_pair made =
    elim (ends (reduced before)) [
      | inl h ↦ made ∙ ap (λ l. appended l c) (e ∙ ap list_text h) ∙ ap list_text (sym (behind-none before c h not_current))
      | inr w ↦
          let fixed : IsFixed (w.0 ++ w.1 ∷ []) = subst IsFixed w.2 (reduced-fixed before) in
          let lacks : LacksSlash w.1 = each-last LacksSlash w.0 w.1 (subst EachLacksSlash w.2 (reduced-each LacksSlash before each)) in
          let stays : (is_named_component w.1 && is_parent c) ≡ false = elim no_pair [
            | inl k ↦ none-parent (is_named_component w.1) (is_parent c) k
            | inr k ↦ ap (λ b. b && is_parent c)
                (parent-not-name (is_current w.1) (is_parent w.1) (k w.0 w.1 lacks (fixed-last w.0 w.1 fixed) (e ∙ ap list_text w.2)))
          ] in
          made ∙ ap (λ l. appended l c) (e ∙ ap list_text w.2) ∙ sym (list_text-fixed w.0 w.1 c fixed)
          ∙ ap list_text (sym (behind-stays before w.0 w.1 c w.2 not_current stays))
    ]
