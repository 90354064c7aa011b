-- Lists by their indexes, and the results of calls that extend them one after another.
use Rattle.ninja_text.specs.Bytes.{Bytes}
use Rattle.std.proofs.Common.{◌≡◌, ℕ, ◌<◌, Bool, ◌&&◌, ◌==◌, true, false, cond, List, ◌++◌, ◌∙◌, ap, append_assoc, Option, Some, None, arith, Ok, Err, IfOk, sym, subst, zero, suc, ◌+◌, [], ◌∷◌, drop, length, refl, slice_get, ◌-◌, ◌⊎◌, map, take, ap₂, inl, inr, ⊎_elim, length-drop, get_or, true≢false, bytes_eq, not, zip}
use Rattle.std.specs.Io.KnownBytes.{Appends}
use Rattle.std.specs.Prelude.{Result, MatchResult, is_ok}
use Rattle.ninja_text.specs.Counting.{Call, TakesInTurn, IsTakenInTurn}
use Rattle.std.specs.List.{Contains, cons_option, filter_map, flat_map, AllZip, list_any}
use Rattle.std.proofs.lemmas.List.{take_all, take_more}
use Rattle.std.proofs.lemmas.Option.{slice_get_within, get_or_from_slice_get, slice_get-get_or}
use Rattle.std.specs.Cmp.Lexicographic.{bytes_decides}
use Rattle.std.proofs.lemmas.List.Folds.{list_any_at}
use Rattle.ninja_text.specs.Firsts.{AllDiffer}

-- ---- known bytes that grow in several writes

-- one extension and then another are one
pub Appends-trans : (a b c : Option Bytes) (x y : Bytes) → Appends a b x → Appends b c y → Appends a c (x ++ y)
Appends-trans None b c x y h k = tt
Appends-trans (Some p) None c x y h k = absurd h
Appends-trans (Some p) (Some q) None x y h k = absurd k
Appends-trans (Some p) (Some q) (Some r) x y h k = grind (arith, append_assoc)

-- a write that took some bytes did not fail
pub some-taken : (n : ℕ) (b : Bool) (x y : ℕ) → 0 < n → cond (n == 0 && b) x y ≡ y
some-taken n true x y h = grind arith
some-taken n false x y h = grind arith

-- ---- results with an error

-- what holds of a value holds of it when the error was mapped
pub with_other_error : {A E D : Type 0} (P : A → Type 0) (Q : E → Type 0) (r : Result A E) (s : Result A D) → MatchResult r (λ x. s ≡ Ok x) Q →
    is_ok s ≡ is_ok r → IfOk r P → IfOk s P
with_other_error P Q (Ok x) s h same p = subst (λ t. IfOk t P) (sym h) p
with_other_error P Q (Err e) (Ok x) h same p = absurd cc
with_other_error P Q (Err e) (Err d) h same p = tt

-- ---- calls of a writer, one after the other

-- one more call after the others
takes-one-more : {W : Type 0} (writes : Call W) (text : Bytes) (out : W) (index : ℕ) (turns : List (W × ℕ)) (last : W) (end : ℕ) (next : W) (n : ℕ)
    → TakesInTurn writes text out index turns last end → 0 < n → writes last next (Ok n) (drop end text)
    → TakesInTurn writes text out index (turns ++ (next, n) ∷ []) next (end + n)
takes-one-more writes text out index [] last end next n h some call =
    rw (h.0, h.1) (some, call, (refl, refl))
takes-one-more writes text out index (turn ∷ turns) last end next n h some call =
    (h.0, h.1, takes-one-more writes text turn.0 (index + turn.1) turns last end next n h.2 some call)

pub taken-one-more : {W : Type 0} (writes : Call W) (text : Bytes) (out last next : W) (taken n : ℕ)
    → IsTakenInTurn writes out last text taken → 0 < n → writes last next (Ok n) (drop taken text)
    → IsTakenInTurn writes out next text (taken + n)
taken-one-more writes text out last next taken n h some call = grind (arith, takes-one-more)

-- ---- the elements of lists, by index

-- Some is injective
pub same_some : {X : Type 0} (x y : X) → Some x ≡ Some y → x ≡ y
same_some x y e = cc

-- lists whose first elements and whose tails are equal
pub same_cons : {X : Type 0} {x y : X} {xs ys : List X} → x ≡ y → xs ≡ ys → x ∷ xs ≡ y ∷ ys
same_cons p q = rw (p, q) refl

-- each index of a list has an element
pub element_at : {X : Type 0} (xs : List X) (k : ℕ) → k < length xs → (x : X) × (slice_get xs k ≡ Some x)
element_at [] k h = absurd (omega arith)
element_at (x ∷ xs) zero h = (x, refl)
element_at (x ∷ xs) (suc k) h = element_at xs k (omega arith)

-- what is at an index is contained, and what is contained is at an index
pub contained : {X : Type 0} (xs : List X) (x : X) → (k : ℕ) × (slice_get xs k ≡ Some x) → Contains xs x
contained xs x h = (h.0, slice_get_within _ _ _ h.1, get_or_from_slice_get xs h.0 x x h.1)

pub placed : {X : Type 0} (xs : List X) (x : X) → Contains xs x → (k : ℕ) × (slice_get xs k ≡ Some x)
placed xs x h = (h.0, slice_get-get_or xs h.0 x h.1 ∙ ap (λ y. Some y) h.2)

-- an element of a mapped list comes from one of the list
pub from_map : {A B : Type 0} (f : A → B) (xs : List A) (k : ℕ) (y : B) → slice_get (map f xs) k ≡ Some y → (x : A) × (slice_get xs k ≡ Some x) × (f x ≡ y)
from_map f [] k y e = cc
from_map f (x ∷ xs) zero y e = (x, refl, same_some _ _ e)
from_map f (x ∷ xs) (suc k) y e = from_map f xs k y e

-- and each of the list has its image there
pub to_map : {A B : Type 0} (f : A → B) (xs : List A) (k : ℕ) (x : A) → slice_get xs k ≡ Some x → slice_get (map f xs) k ≡ Some (f x)
to_map f [] k x e = cc
to_map f (y ∷ xs) zero x e = cc
to_map f (y ∷ xs) (suc k) x e = to_map f xs k x e

-- an element of two lists, one after the other, is in the first or in the second
pub in_append : {X : Type 0} (xs ys : List X) (k : ℕ) (x : X) → slice_get (xs ++ ys) k ≡ Some x →
    (slice_get xs k ≡ Some x) ⊎ ((m : ℕ) × (k ≡ length xs + m) × (slice_get ys m ≡ Some x))
in_append [] ys k x e = inr (k, omega arith, e)
in_append (y ∷ xs) ys zero x e = inl e
in_append (y ∷ xs) ys (suc k) x e = grind (arith, in_append xs ys k x e)

-- and each of the first or of the second is in both
pub in_first : {X : Type 0} (xs ys : List X) (k : ℕ) (x : X) → slice_get xs k ≡ Some x → slice_get (xs ++ ys) k ≡ Some x
in_first [] ys k x e = cc
in_first (y ∷ xs) ys zero x e = e
in_first (y ∷ xs) ys (suc k) x e = in_first xs ys k x e

pub in_second : {X : Type 0} (xs ys : List X) (k : ℕ) (x : X) → slice_get ys k ≡ Some x → slice_get (xs ++ ys) (length xs + k) ≡ Some x
in_second [] ys k x e = let at : 0 + k ≡ k = omega arith in rw at e
in_second (y ∷ xs) ys k x e = grind (arith, length, in_second xs ys k x e)

-- two lists in parallel
pub to_zip : {A B : Type 0} (xs : List A) (ys : List B) (k : ℕ) (x : A) (y : B) → slice_get xs k ≡ Some x → slice_get ys k ≡ Some y →
    slice_get (zip xs ys) k ≡ Some (x, y)
to_zip [] ys k x y e f = cc
to_zip (a ∷ xs) [] k x y e f = cc
to_zip (a ∷ xs) (b ∷ ys) zero x y e f = cc
to_zip (a ∷ xs) (b ∷ ys) (suc k) x y e f = to_zip xs ys k x y e f

-- an element of a list that is one longer is in the list, or it is the last one
pub from_push : {X : Type 0} (xs : List X) (y : X) (k : ℕ) (x : X) → slice_get (xs ++ y ∷ []) k ≡ Some x →
    (slice_get xs k ≡ Some x) ⊎ ((k ≡ length xs) × (y ≡ x))
from_push [] y zero x e = inr (refl, same_some _ _ e)
from_push [] y (suc k) x e = cc
from_push (z ∷ xs) y zero x e = inl e
from_push (z ∷ xs) y (suc k) x e = grind (arith, ⊎_elim, from_push xs y k x e)

-- what is among the first few is in the list
pub from_take : {X : Type 0} (n : ℕ) (xs : List X) (k : ℕ) (x : X) → slice_get (take n xs) k ≡ Some x → (k < n) × (slice_get xs k ≡ Some x)
from_take zero xs k x e = cc
from_take (suc n) [] k x e = cc
from_take (suc n) (y ∷ xs) zero x e = (omega arith, e)
from_take (suc n) (y ∷ xs) (suc k) x e = grind (arith, from_take n xs k x e)

pub in_take : {X : Type 0} (n : ℕ) (xs : List X) (k : ℕ) (x : X) → k < n → slice_get xs k ≡ Some x → slice_get (take n xs) k ≡ Some x
in_take zero xs k x lt e = absurd (omega arith)
in_take (suc n) [] k x lt e = cc
in_take (suc n) (y ∷ xs) zero x lt e = e
in_take (suc n) (y ∷ xs) (suc k) x lt e = in_take n xs k x (omega arith) e

pub map_take : {X Y : Type 0} (f : X → Y) (n : ℕ) (xs : List X) → map f (take n xs) ≡ take n (map f xs)
map_take f zero xs = refl
map_take f (suc n) [] = refl
map_take f (suc n) (x ∷ xs) = simp (map_take f n xs)

-- one more of the list
pub take_next : {X : Type 0} (xs : List X) (i : ℕ) (x : X) → slice_get xs i ≡ Some x → take (i + 1) xs ≡ take i xs ++ x ∷ []
take_next xs i x at = take_more xs i x (slice_get_within xs i x at) ∙ ap (λ y. take i xs ++ y ∷ []) (get_or_from_slice_get xs i x x at)

-- `list[n..]`
pub to_the_end : {X : Type 0} (n : ℕ) (xs : List X) → take (length xs - n) (drop n xs) ≡ drop n xs
to_the_end n xs = take_all (length xs - n) (drop n xs) (omega (arith, length-drop n xs))

-- a list whose elements are each what a function gives is the mapped list
pub zip_is_map : {A B : Type 0} (R : A → B → Type 0) (f : A → B) → ((a : A) (b : B) → R a b → b ≡ f a) → (xs : List A) (ys : List B) → AllZip R xs ys →
    ys ≡ map f xs
zip_is_map R f is [] [] h = refl
zip_is_map R f is [] (y ∷ ys) h = absurd h
zip_is_map R f is (x ∷ xs) [] h = absurd h
zip_is_map R f is (x ∷ xs) (y ∷ ys) h = grind (arith, ap₂, zip_is_map R f is xs ys h.1)

-- an element of the list comes from one that something is made of
abbrev pub FromItem : {X Y : Type 0} → (X → Option Y) → List X → Y → Type 0
FromItem {X} h xs y = (x : X) × ((j : ℕ) × (slice_get xs j ≡ Some x)) × (h x ≡ Some y)

later : {X Y : Type 0} (h : X → Option Y) (z : X) (xs : List X) (y : Y) → FromItem h xs y → FromItem h (z ∷ xs) y
later h z xs y c = (c.0, (suc c.1.0, c.1.1), c.2)

from_cons : {X Y : Type 0} (h : X → Option Y) (z : X) (xs : List X) (o : Option Y) (k : ℕ) (y : Y) → h z ≡ o →
    slice_get (cons_option o (filter_map h xs)) k ≡ Some y → ((l : ℕ) → slice_get (filter_map h xs) l ≡ Some y → FromItem h xs y) → FromItem h (z ∷ xs) y
from_cons h z xs None k y is at rest = later h z xs y (rest k at)
from_cons h z xs (Some w) zero y is at rest = (z, (0, refl), is ∙ at)
from_cons h z xs (Some w) (suc k) y is at rest = later h z xs y (rest k at)

pub from_filter_map : {X Y : Type 0} (h : X → Option Y) (xs : List X) (k : ℕ) (y : Y) → slice_get (filter_map h xs) k ≡ Some y → FromItem h xs y
from_filter_map h [] k y at = cc
from_filter_map h (z ∷ xs) k y at = from_cons h z xs (h z) k y refl at (λ l. from_filter_map h xs l y)

put_in : {Y : Type 0} (o : Option Y) (ys : List Y) (y : Y) → (k : ℕ) × (slice_get ys k ≡ Some y) → (k : ℕ) × (slice_get (cons_option o ys) k ≡ Some y)
put_in None ys y h = h
put_in (Some z) ys y h = (suc h.0, h.1)

pub in_filter_map : {X Y : Type 0} (h : X → Option Y) (xs : List X) (k : ℕ) (x : X) (y : Y) → slice_get xs k ≡ Some x → h x ≡ Some y →
    (j : ℕ) × (slice_get (filter_map h xs) j ≡ Some y)
in_filter_map h [] k x y at is = cc
in_filter_map h (z ∷ xs) zero x y at is = grind (arith, Some, same_some, ℕ, slice_get)
in_filter_map h (z ∷ xs) (suc k) x y at is = grind (arith, put_in, in_filter_map h xs k x y)

-- two numbers are in one of three orders
pub three_ways : (a b : ℕ) → (a < b) ⊎ ((a ≡ b) ⊎ (b < a))
three_ways zero zero = inr (inl refl)
three_ways zero (suc b) = inl (omega arith)
three_ways (suc a) zero = inr (inr (omega arith))
three_ways (suc a) (suc b) = grind (arith, three_ways a b)

chosen : {X : Type 0} (P : ℕ → X → Type 0) (x : X) → P 0 x → (xs : List X) → ((i : ℕ) (y : X) → slice_get xs i ≡ Some y → P (suc i) y) → (i : ℕ) (y : X) →
    slice_get (x ∷ xs) i ≡ Some y → P i y
chosen P x p xs f zero y e = let same : x ≡ y = cc in subst (λ z. P 0 z) same p
chosen P x p xs f (suc i) y e = f i y e

-- a choice for each number below n makes a list
pub choose : {X : Type 0} (P : ℕ → X → Type 0) (n : ℕ) → ((i : ℕ) → i < n → (x : X) × P i x) →
    (xs : List X) × (length xs ≡ n) × ((i : ℕ) (x : X) → slice_get xs i ≡ Some x → P i x)
choose P zero f = ([], refl, λ i x e. cc)
choose P (suc n) f =
    let first : (x : _) × P 0 x = f 0 (omega arith) in
    let others : (xs : List _) × (length xs ≡ n) ×
    ((i : ℕ) (x : _) → slice_get xs i ≡ Some x → P (suc i) x) = choose (λ i x. P (suc i) x) n (λ i h. f (suc i) (omega arith)) in
    (first.0 ∷ others.0, omega (arith, others.1), chosen P first.0 first.1 others.0 others.2)

-- how many elements come before the part of element i
pub offset : {A B : Type 0} → (A → List B) → List A → ℕ → ℕ
offset f [] i = 0
offset f (x ∷ xs) zero = 0
offset f (x ∷ xs) (suc i) = length (f x) + offset f xs i

-- y is element j of the part of element i
abbrev pub InPart : {A B : Type 0} → (A → List B) → List A → ℕ → ℕ → B → Type 0
InPart {A} f xs i j y = (x : A) × (slice_get xs i ≡ Some x) × (slice_get (f x) j ≡ Some y)

-- an element of a part is one of the whole list
pub in_flat_map : {A B : Type 0} (f : A → List B) (xs : List A) (i j : ℕ) (y : B) → InPart f xs i j y → slice_get (flat_map f xs) (offset f xs i + j) ≡ Some y
unfolding offset
in_flat_map f [] i j y h = let none = h.1 in cc
in_flat_map f (z ∷ xs) zero j y h = grind (arith, in_first, slice_get, Some, same_some)
in_flat_map f (z ∷ xs) (suc i) j y h =
    let at : (length (f z) + offset f xs i) + j ≡ length (f z) + (offset f xs i + j) = omega arith in
    rw at (in_second (f z) (flat_map f xs) (offset f xs i + j) y (in_flat_map f xs i j y (h.0, h.1, h.2)))

-- an element of the whole list is one of a part
abbrev pub FromPart : {A B : Type 0} → (A → List B) → List A → ℕ → B → Type 0
FromPart f xs k y = (i : ℕ) × (j : ℕ) × InPart f xs i j y × (k ≡ offset f xs i + j)

pub from_flat_map : {A B : Type 0} (f : A → List B) (xs : List A) (k : ℕ) (y : B) → slice_get (flat_map f xs) k ≡ Some y → FromPart f xs k y
unfolding offset
from_flat_map f [] k y e = cc
from_flat_map f (x ∷ xs) k y e =
    elim (in_append (f x) (flat_map f xs) k y e) [
      | inl h ↦ (0, k, (x, refl, h), omega arith)
      | inr h ↦ let r = from_flat_map f xs h.0 y h.2 in (suc r.0, r.1, (r.2.0, r.2.1, r.2.2), omega (arith, h.1, r.3))
    ]

-- ---- lists in which all differ

-- all differ in a list that is one longer by something new
pub differ_push : {X : Type 0} (xs : List X) (y : X) → AllDiffer xs → ((k : ℕ) → slice_get xs k ≡ Some y → ⊥) → AllDiffer (xs ++ y ∷ [])
differ_push xs y all new = grind (arith, ℕ, slice_get, Some, ⊎_elim, length, slice_get_within, from_push)

-- what a search by texts does not find is not there
pub not_among : {X : Type 0} (f : X → Bytes) (ks : List X) (x : X) → list_any (λ k. bytes_eq (f x) (f k)) ks ≡ false → (k : ℕ) →
    slice_get (map f ks) k ≡ Some (f x) → ⊥
not_among f ks x none k at =
    let from = from_map f ks k (f x) at in
    let within : k < length ks = slice_get_within ks k from.0 from.1 in
    let read : get_or ks k from.0 ≡ from.0 = get_or_from_slice_get ks k from.0 from.0 from.1 in
    let same : bytes_eq (f x) (f (get_or ks k from.0)) ≡ true = (bytes_decides (f x) (f (get_or ks k from.0))).1 (sym from.2 ∙ ap f (sym read)) in
    true≢false (sym (list_any_at (λ z. bytes_eq (f x) (f z)) ks k from.0 within same) ∙ none)

-- a table says of what it was given whether it was new
pub found_if : (b : Bool) → false ≡ not b → b ≡ true
found_if true e = refl
found_if false e = e

pub new_if : (b : Bool) → true ≡ not b → b ≡ false
new_if true e = e
new_if false e = refl
