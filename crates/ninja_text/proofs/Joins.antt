-- A path that is read in a directory: what is kept of each.
use Rattle.std.proofs.lemmas.Grind.{common_steps}
use Rattle.ninja_text.specs.Bytes.{Bytes}
use Rattle.std.proofs.Common.{◌≡◌, ◌≢◌, ℕ, zero, suc, ◌+◌, ◌*◌, ◌<◌, ◌≤◌, Bool, true, false, not, cond, ◌==◌, ◌||◌, [], ◌∷◌, ◌++◌, length, take, drop, get_or, refl, sym, ◌∙◌, ap, arith, length-append, ◌⊎◌, inl, inr, None, position, rules}
use Rattle.std.specs.List.{list_any, prefix_len, position_from, AllByRecursion, onto_first}
use Rattle.std.proofs.lemmas.Iterator.Adapters.{position_from-zero}
use Rattle.std.proofs.lemmas.List.{length-take-le, take_more}
use Rattle.std.proofs.lemmas.List.Splits.{join_with_byte-slice_split}
use Rattle.std.proofs.lemmas.Slice.Eq.{bytes_eq-Decides}
use Rattle.std.proofs.Math.Seq.{take-append-add, take-append_seam}
use Rattle.ninja_text.specs.Escapes.{is_unwritable}
use Rattle.ninja_text.specs.Reduction.{components, is_current, is_parent, is_named_component, in_front, reduced}
use Rattle.ninja_text.specs.PathShape.{parts}
use Rattle.ninja_text.specs.inner.ComponentLists.{Components, list_text, reduced_text, leads_up, slashes_from, LacksSlash, EachLacksSlash}
use Rattle.ninja_text.specs.inner.Joins.{glued, moved}
use Rattle.ninja_text.proofs.ReducedList.{IsFixed, reduced-fixed, reduced-each, either_way, fixed-reduced, fixed-tail, names-fixed, in_front-parent}
use Rattle.ninja_text.proofs.Components.{components-some, components-lack, list_text-append}
use Rattle.ninja_text.proofs.Shape.{all-names, path-some}

-- a text whose components are all names is its own canonical list, written out
pub only-names : (text : Bytes) → list_any (λ c. is_current c || is_parent c) (components text) ≡ false → reduced_text text ≡ text
only-names text none = simp (fixed-reduced, names-fixed, join_with_byte-slice_split)

-- ---- the slashes of a list

-- the slashes of a text and one byte more
slashes-behind : (start : ℕ) (a : Bytes) (b : ℕ)
    → slashes_from start (a ++ b ∷ []) ≡ slashes_from start a ++ cond (b == 47) ((start + length a) ∷ []) []
slashes-behind start [] b = search rules
slashes-behind start (x ∷ xs) b =
    grind (arith, common_steps, slashes-behind (start + 1) xs b)

-- the slashes of the first bytes of a list and one more
pub slashes-step : (list : Bytes) (i : ℕ) → i < length list
    → slashes_from 0 (take (i + 1) list) ≡ slashes_from 0 (take i list) ++ cond (get_or list i 0 == 47) (i ∷ []) []
slashes-step list i lt =
    grind (arith, common_steps, take_more list i 0 lt, slashes-behind 0 (take i list) (get_or list i 0), length-take-le i list (omega arith))

-- a component without a slash adds none
slashes-none : (start : ℕ) (x : Bytes) → LacksSlash x → slashes_from start x ≡ []
slashes-none start [] h = refl
slashes-none start (b ∷ bs) h = cc (slashes-none (start + 1) bs h.1)

-- after it comes the first slash
slashes-at : (start : ℕ) (x t : Bytes) → LacksSlash x → slashes_from start (x ++ 47 ∷ t) ≡ (start + length x) ∷ slashes_from (start + length x + 1) t
slashes-at start [] t h = search rules
slashes-at start (b ∷ bs) t h =
    grind (arith, common_steps, slashes-at (start + 1) bs t h.1)

-- a list has a slash between each two components
pub slashes-count : (start : ℕ) (x : Bytes) (xs : Components) → EachLacksSlash (x ∷ xs)
    → length (slashes_from start (list_text (x ∷ xs))) ≡ length xs
slashes-count start x [] h = ap length (slashes-none start x h.0)
slashes-count start x (y ∷ ys) h =
    grind (arith, slashes-at, slashes-count (start + length x + 1) y ys h.1)

-- the first components end where the slash after them is
slashes-end : (start : ℕ) (x : Bytes) (xs : Components) (m z : ℕ) → EachLacksSlash (x ∷ xs) → m < length xs
    → get_or (slashes_from start (list_text (x ∷ xs))) m z ≡ start + length (list_text (take (suc m) (x ∷ xs)))
slashes-end start x [] m z h lt = absurd (omega arith)
slashes-end start x (y ∷ ys) zero z h lt = grind (arith, slashes-at)
slashes-end start x (y ∷ ys) (suc m) z h lt =
    grind (arith, length-append, slashes-at, slashes-end (start + length x + 1) y ys m z h.1 (omega arith))

-- the text up to there is that of the first components
cut-text : (m : ℕ) (x : Bytes) (xs : Components)
    → take (length (list_text (take (suc m) (x ∷ xs)))) (list_text (x ∷ xs)) ≡ list_text (take (suc m) (x ∷ xs))
cut-text zero x [] = grind (arith, common_steps)
cut-text (suc m) x [] = grind (arith, common_steps)
cut-text zero x (y ∷ ys) = simp take-append_seam
cut-text (suc m) x (y ∷ ys) =
    simp (length-append, take-append-add, cut-text m y ys)

-- the first components of a list, by the slash after them
pub cut-list : (list : Components) (m z : ℕ) → EachLacksSlash list → suc m < length list
    → take (get_or (slashes_from 0 (list_text list)) m z) (list_text list) ≡ list_text (take (suc m) list)
cut-list [] m z h lt = absurd (omega arith)
cut-list (x ∷ xs) m z h lt =
    grind (arith, common_steps, slashes-end 0 x xs m z h (omega arith), cut-text m x xs)

-- a slash is where the components before it end
pub slash-offset : (list : Components) (m z : ℕ) → EachLacksSlash list → suc m < length list
    → get_or (slashes_from 0 (list_text list)) m z ≡ length (list_text (take (suc m) list))
slash-offset [] m z h lt = absurd (omega arith)
slash-offset (x ∷ xs) m z h lt = grind (arith, slashes-end)

-- ---- the list of a directory and of what is read in it

-- how many `..` a list begins with
abbrev pub up : Components → ℕ
up list = prefix_len is_parent list

-- a list begins with `..`
abbrev pub leads : Components → Bool
leads [] = false
leads (c ∷ cs) = is_parent c

-- each component is a name
abbrev pub AreNames : Components → Type 0
AreNames list = AllByRecursion (λ n. is_named_component n ≡ true) list

-- a name is no `..`
pub name-not-parent : (i u : Bool) → not (i || u) ≡ true → u ≡ false
name-not-parent true u h = cc
name-not-parent false true h = cc
name-not-parent false false h = refl

-- a name stays in front of a list that does not begin with `..`
pub in_front-plain : (n : Bytes) (r : Components) → is_named_component n ≡ true → leads r ≡ false → in_front n r ≡ n ∷ r
in_front-plain n [] h k = grind (arith, common_steps)
in_front-plain n (c ∷ cs) h k =
    grind (arith, common_steps)

-- a name goes with the `..` after it
pub in_front-up : (n c : Bytes) (cs : Components) → is_named_component n ≡ true → is_parent c ≡ true → in_front n (c ∷ cs) ≡ cs
in_front-up n c cs h k = grind (arith, common_steps)

-- one more `..`, or none
pub up-more : (c : Bytes) (cs : Components) → is_parent c ≡ true → up (c ∷ cs) ≡ suc (up cs)
up-more c cs h = search rules

pub up-none : (c : Bytes) (cs : Components) → is_parent c ≡ false → up (c ∷ cs) ≡ 0
up-none c cs h = cc

-- after its `..` a list does not begin with one
past-parents : (q : Components) (d : ℕ) → d ≡ up q → leads (drop d q) ≡ false
past-parents [] zero e = refl
past-parents [] (suc d) e = refl
past-parents (c ∷ cs) zero e = grind (arith, common_steps)
past-parents (c ∷ cs) (suc d) e = elim (either_way (is_parent c))
    [ inl h ↦ let k = up-more c cs h in past-parents cs d (omega arith) | inr h ↦ cc ]

-- names, or nothing, and then a list after its `..`
plain-joined : (m : ℕ) (ns q : Components) (d : ℕ) → AreNames ns → d ≡ up q → leads (take m ns ++ drop d q) ≡ false
plain-joined zero ns q d names e = past-parents q d e
plain-joined (suc m) [] q d names e = past-parents q d e
plain-joined (suc m) (n ∷ ns) q d names e = name-not-parent (is_current n) (is_parent n) names.0

-- an early component of the `..` of a list
next-parent : (q : Components) (d : ℕ) → d < up q → (c : Bytes) × (drop d q ≡ c ∷ drop (suc d) q) × (is_parent c ≡ true)
next-parent [] d lt = absurd (omega arith)
next-parent (c ∷ cs) zero lt = grind (arith, common_steps)
next-parent (c ∷ cs) (suc d) lt = elim (either_way (is_parent c))
    [ inl h ↦ let k = up-more c cs h in next-parent cs d (omega arith) | inr h ↦ grind (arith, common_steps) ]

-- names in front of a list: each `..` that it begins with removes one
names-joined : (ns q : Components) (m d : ℕ) → AreNames ns → IsFixed q → m + d ≡ length ns → d ≤ up q → (d ≡ up q) ⊎ (m ≡ 0)
    → reduced (ns ++ q) ≡ take m ns ++ drop d q
names-joined [] q zero zero names f e le way = fixed-reduced q f
names-joined [] q zero (suc d) names f e le way = absurd (omega arith)
names-joined [] q (suc m) d names f e le way = absurd (omega arith)
names-joined (n ∷ ns) q zero zero names f e le way = absurd (omega arith)
names-joined (n ∷ ns) q zero (suc d) names f e le way =
    grind (arith, common_steps, next-parent q d (omega arith), names-joined ns q zero d names.1 f (omega arith) (omega arith) (inr refl))
names-joined (n ∷ ns) q (suc m) d names f e le way =
    let all : d ≡ up q = omega arith in
    grind (arith, in_front-plain, plain-joined, names-joined ns q m d names.1 f (omega arith) le (inl all))

-- a canonical list in front of another: each `..` that the other begins with removes a name
pub lists-joined : (list q : Components) (m d : ℕ) → IsFixed list → IsFixed q → m + d ≡ length list → up list ≤ m → d ≤ up q
    → (d ≡ up q) ⊎ (m ≡ up list) → reduced (list ++ q) ≡ take m list ++ drop d q
lists-joined [] q m d fixed f e low le way = grind (arith, names-joined)
lists-joined (c ∷ cs) q zero d fixed f e low le way =
    elim (either_way (is_parent c)) [
      | inl h ↦ grind (arith, common_steps)
      | inr h ↦ names-joined (c ∷ cs) q zero d (all-names c cs fixed h) f e le (inr refl)
    ]
lists-joined (c ∷ cs) q (suc m) d fixed f e low le way =
    elim (either_way (is_parent c)) [
      | inl h ↦ let k = up-more c cs h in
          ap (in_front c) (lists-joined cs q m d (fixed-tail c cs fixed) f (omega arith) (omega arith) le
          (search rules))
          ∙ in_front-parent c (take m cs ++ drop d q) h
      | inr h ↦ let k = up-none c cs h in
          names-joined (c ∷ cs) q (suc m) d (all-names c cs fixed h) f e le (search rules)
    ]

-- ---- lists, written out

-- the first components of a canonical list
pub fixed-take : (m : ℕ) (list : Components) → IsFixed list → IsFixed (take m list)
fixed-take zero list f = tt
fixed-take (suc m) [] f = tt
fixed-take (suc zero) (c ∷ []) f = f
fixed-take (suc (suc m)) (c ∷ []) f = f
fixed-take (suc zero) (c ∷ d ∷ ds) f = f.0
fixed-take (suc (suc m)) (c ∷ d ∷ ds) f = (f.0, f.1, fixed-take (suc m) (d ∷ ds) f.2)

-- the last ones
pub fixed-drop : (m : ℕ) (list : Components) → IsFixed list → IsFixed (drop m list)
fixed-drop zero list f = f
fixed-drop (suc m) [] f = tt
fixed-drop (suc m) (c ∷ cs) f = fixed-drop m cs (fixed-tail c cs f)

-- two texts that are not empty, one after the other
glued-both : (t u : Bytes) → t ≢ [] → u ≢ [] → glued t u ≡ t ++ 47 ∷ u
glued-both [] u n k = absurd (n refl)
glued-both (b ∷ t) [] n k = absurd (k refl)
glued-both (b ∷ t) (c ∷ u) n k = refl

-- nothing after a text
pub glued-nil : (t : Bytes) → glued t [] ≡ t
glued-nil [] = refl
glued-nil (b ∷ t) = refl

-- two canonical lists are written out one after the other
pub glued-lists : (xs ys : Components) → IsFixed xs → IsFixed ys → glued (list_text xs) (list_text ys) ≡ list_text (xs ++ ys)
glued-lists [] ys f g = refl
glued-lists (x ∷ xs) [] f g = grind (arith, common_steps)
glued-lists (x ∷ xs) (y ∷ ys) f g =
    glued-both (list_text (x ∷ xs)) (list_text (y ∷ ys)) (path-some false (x ∷ xs) f refl) (path-some false (y ∷ ys) g refl) ∙ sym (list_text-append x xs y ys)

-- `..` is written as two dots
parent-is : (c : Bytes) → is_parent c ≡ true → c ≡ 46 ∷ 46 ∷ []
parent-is c h = grind (arith, bytes_eq-Decides)

-- nothing is left of nothing
none-behind : (d : ℕ) → list_text (drop d []) ≡ []
none-behind zero = refl
none-behind (suc d) = refl

-- two dots and the slash after them are three bytes
past-two : (d n : ℕ) (cs : Components) → drop n (list_text cs) ≡ list_text (drop d cs)
    → drop (suc (suc (suc n))) (list_text ((46 ∷ 46 ∷ []) ∷ cs)) ≡ list_text (drop d cs)
past-two d n [] e = sym (none-behind d)
past-two d n (y ∷ ys) e = e

-- without three bytes for each, a list has some `..` less
pub text-behind : (d n : ℕ) (q : Components) → n ≡ 3 * d → d ≤ up q → drop n (list_text q) ≡ list_text (drop d q)
text-behind zero zero q e le = refl
text-behind zero (suc n) q e le = absurd (omega arith)
text-behind (suc d) zero q e le = absurd (omega arith)
text-behind (suc d) (suc zero) q e le = absurd (omega arith)
text-behind (suc d) (suc (suc zero)) q e le = absurd (omega arith)
text-behind (suc d) (suc (suc (suc n))) [] e le = absurd (omega arith)
text-behind (suc d) (suc (suc (suc n))) (c ∷ cs) e le = elim (either_way (is_parent c)) [
  | inl h ↦ let k = up-more c cs h in ap (λ c. drop (suc (suc (suc n))) (list_text (c ∷ cs))) (parent-is c h) ∙
      past-two d n cs (text-behind d n cs (omega arith) (omega arith))
  | inr h ↦ grind (arith, common_steps)
]

-- ---- a list that leads up

-- after a name no component is `..`
no-parent : (list : Components) → AreNames list → list_any is_parent list ≡ false
no-parent [] h = refl
no-parent (c ∷ cs) h = grind (arith, common_steps, no-parent cs h.1)

-- a canonical list has a `..` if it begins with one
pub any-leads : (list : Components) → IsFixed list → list_any is_parent list ≡ leads list
any-leads [] f = refl
any-leads (c ∷ cs) f = grind (arith, no-parent, all-names)

leads-front : (c t : Bytes) → LacksSlash c → is_current c ≡ false → leads_up (c ++ 47 ∷ t) ≡ is_parent c
leads-front [] t h n = cc
leads-front (a ∷ []) [] h n = refl
leads-front (a ∷ []) (z ∷ t) h n = refl
leads-front (a ∷ b ∷ []) t h n = refl
leads-front (a ∷ b ∷ d ∷ r) t h n =
    cc

-- a canonical list leads up if it has a `..`
pub leads-list : (list : Components) → IsFixed list → EachLacksSlash list → leads_up (list_text list) ≡ list_any is_parent list
leads-list [] f h = refl
leads-list (c ∷ []) f h = grind (arith, common_steps)
leads-list (c ∷ y ∷ ys) f h = grind (arith, leads-front, any-leads)

-- ---- the first byte that cannot be escaped

-- an index that counts from elsewhere
counted-on : (from index : ℕ) (text : Bytes) → position_from is_unwritable (from + index) text ≡ moved None from (position_from is_unwritable index text)
counted-on from index [] = refl
counted-on from index (b ∷ bs) = grind (arith, common_steps, counted-on from (index + 1) bs)

found-from : (index : ℕ) (a b : Bytes) →
    position_from is_unwritable index (a ++ b) ≡ moved (position_from is_unwritable index a) (index + length a) (position_from is_unwritable 0 b)
found-from index [] b = grind (arith, common_steps, counted-on (index + 0) 0 b)
found-from index (x ∷ a) b = grind (arith, common_steps, found-from (index + 1) a b)

-- the first byte of two texts that cannot be escaped
pub position-append : (a b : Bytes) → position is_unwritable (a ++ b) ≡ moved (position is_unwritable a) (length a) (position is_unwritable b)
position-append a b =
    grind (arith, position_from-zero, found-from)

-- ---- components of two texts

-- a text has a component
not-none : (r : Bytes) → components r ≢ []
not-none r e = grind (arith, common_steps, components-some r)

-- a byte, which is a slash or not, in front of two lists
slash-cond : (t : Bool) (x : ℕ) (xs ys all : Components) → xs ≢ [] → all ≡ xs ++ ys
    → cond t ([] ∷ all) (onto_first x all) ≡ cond t ([] ∷ xs) (onto_first x xs) ++ ys
slash-cond true x xs ys all n e = cc
slash-cond false x xs ys all n e = grind (arith, common_steps)

-- a slash divides the components
pub components-slash : (a b : Bytes) → components (a ++ 47 ∷ b) ≡ components a ++ components b
components-slash [] b = refl
components-slash (x ∷ a) b = grind (arith, slash-cond, not-none, components-slash a b)

-- a text without a slash in front of the first component
pub components-front : (a t first : Bytes) (others : Components) → LacksSlash a → components t ≡ first ∷ others
    → components (a ++ t) ≡ (a ++ first) ∷ others
components-front [] t first others h e = e
components-front (b ∷ bs) t first others h e = cc (components-front bs t first others h.1 e)

-- the list of a text leads up if it has a `..`
pub leads-text : (text : Bytes) → leads_up (reduced_text text) ≡ list_any is_parent (parts text)
leads-text text = simp (leads-list, reduced-fixed, reduced-each, components-lack)
