-- Lists: equality, parts, and the first element that an earlier one repeats.
use Rattle.std.proofs.Common.{◌≡◌, ◌≢◌, ◌⊎◌, ℕ, List, [], ◌∷◌, Option, Some, None, refl, inl, inr, ap, arith, zero, suc, ◌<◌, ◌+◌, length, map, Result, Ok, subst, sym, slice_get}
use Rattle.std.proofs.lemmas.Option.{slice_get_within, get_or_from_slice_get}
use Rattle.build_effect.specs.Prelude.{All, flat_map, Turns, ForFault, IsFirstAt, AllDiffer, Failure, Fault, Memory, EdgeValue, made_files, StandsBefore, made_by, MadeOnce, IsMadeTwice, NoneMadeTwice}
use Rattle.ninja_text.proofs.ForCallers.{same_some, in_first, in_second, three_ways, offset, InPart, in_flat_map}

-- ---- results that are equal, and those that are not

pub from_some : {X : Type 0} {x y : X} → ◌≡◌ {A = Option X} (Some x) (Some y) → x ≡ y
from_some h = same_some _ _ h

pub none_some : {X A : Type 0} {x : X} → ◌≡◌ {A = Option X} None (Some x) → A
none_some h = absurd (cc)

-- ---- two values are equal or they are not

abbrev pub Decides : {X : Type 0} → X → X → Type 0
Decides x y = (x ≡ y) ⊎ (x ≢ y)

pub nat_decides : (a b : ℕ) → Decides a b
nat_decides zero zero = inl refl
nat_decides zero (suc b) = inr (λ e. omega arith)
nat_decides (suc a) zero = inr (λ e. omega arith)
nat_decides (suc a) (suc b) = elim (nat_decides a b) [ inl e ↦ inl (ap suc e) | inr n ↦ inr (λ e. n (omega arith)) ]

pub list_decides : {X : Type 0} → ((x y : X) → Decides x y) → (xs ys : List X) → Decides xs ys
list_decides d [] [] = inl refl
list_decides d [] (y ∷ ys) = inr (λ e. cc)
list_decides d (x ∷ xs) [] = inr (λ e. cc)
list_decides d (x ∷ xs) (y ∷ ys) =
    elim (d x y) [
      | inl e ↦ elim (list_decides d xs ys) [ inl f ↦ inl (cc) | inr n ↦ inr (λ f. n (cc)) ]
      | inr n ↦ inr (λ f. n (cc))
    ]

pub path_option_decides : (p q : Option (List ℕ)) → Decides p q
path_option_decides None None = inl refl
path_option_decides None (Some q) = inr (λ e. cc)
path_option_decides (Some p) None = inr (λ e. cc)
path_option_decides (Some p) (Some q) = elim (list_decides nat_decides p q) [ inl e ↦ inl (ap Some e) | inr n ↦ inr (λ e. n (cc)) ]

-- ---- the fault in a failure

pub for_fault : {F : Type 0} (P Q : F → Type 0) → ((fault : F) → P fault → Q fault) → (failure : Failure F) → ForFault P failure → ForFault Q failure
for_fault P Q so Memory h = h
for_fault P Q so (Fault fault) h = so fault h

-- what holds of the fault that a fault was turned into
pub for_turned : {F G : Type 0} (P : F → Type 0) (Q : G → Type 0) (turned : F → G → Type 0) (failure : Failure F) (new : Failure G) →
    ((fault : F) (other : G) → turned fault other → P fault → Q other) → Turns turned failure new → ForFault P failure → ForFault Q new
for_turned P Q turned Memory new so is h = rw is tt
for_turned P Q turned (Fault fault) new so is h = rw is.2 (so fault is.0 is.1 h)

-- ---- elements and parts of lists

-- lists of one length with the same elements are one
pub same_lists : {X : Type 0} (xs ys : List X) → length xs ≡ length ys → ((k : ℕ) (x y : X) → slice_get xs k ≡ Some x → slice_get ys k ≡ Some y → x ≡ y) →
    xs ≡ ys
same_lists [] [] e f = refl
same_lists [] (y ∷ ys) e f = absurd (omega arith)
same_lists (x ∷ xs) [] e f = absurd (omega arith)
same_lists (x ∷ xs) (y ∷ ys) e f =
    let heads = f 0 x y refl refl in
    let tails = same_lists xs ys (omega arith) (λ k a b. f (suc k) a b) in
    cc

-- lists whose elements have the same images under an injective map are one
pub same_map : {A B : Type 0} (f : A → B) → ((x y : A) → f x ≡ f y → x ≡ y) → (xs ys : List A) → map f xs ≡ map f ys → xs ≡ ys
same_map f inj [] [] e = refl
same_map f inj [] (y ∷ ys) e = cc
same_map f inj (x ∷ xs) [] e = cc
same_map f inj (x ∷ xs) (y ∷ ys) e =
    let heads : f x ≡ f y = cc in
    let tails : map f xs ≡ map f ys = cc in
    let head = inj x y heads in
    let tail = same_map f inj xs ys tails in
    cc

pub same_ok : {X E : Type 0} (x y : X) → (let a : Result X E = Ok x in let b : Result X E = Ok y in a ≡ b) → x ≡ y
same_ok x y e = cc

-- if all elements of all parts differ, an element is in one part, at one index
pub one_part : {A B : Type 0} (f : A → List B) (xs : List A) → AllDiffer (flat_map f xs) → (i j k l : ℕ) (y : B) → InPart f xs i j y → InPart f xs k l y →
    (i ≡ k) × (j ≡ l)
one_part f [] all i j k l y p q = let none = p.1 in cc
one_part f (x ∷ xs) all zero j zero l y p q =
    let here = in_first (f x) (flat_map f xs) j y (subst (λ w. slice_get (f w) j ≡ Some y) (sym (from_some p.1)) p.2) in
    let there = in_first (f x) (flat_map f xs) l y (subst (λ w. slice_get (f w) l ≡ Some y) (sym (from_some q.1)) q.2) in
    elim (three_ways j l) [
      | inl less ↦ absurd (all.differ j l y less here there)
      | inr rest ↦ elim rest [ inl same ↦ (refl, same) | inr more ↦ absurd (all.differ l j y more there here) ]
    ]
one_part f (x ∷ xs) all zero j (suc k) l y p q =
    let here = subst (λ w. slice_get (f w) j ≡ Some y) (sym (from_some p.1)) p.2 in
    let m = offset f xs k + l in
    let within : j < length (f x) = slice_get_within _ _ _ here in
    absurd (all.differ j (length (f x) + m) y (omega arith) (in_first (f x) (flat_map f xs) j y here)
    (in_second (f x) (flat_map f xs) m y (in_flat_map f xs k l y (q.0, q.1, q.2))))
one_part f (x ∷ xs) all (suc i) j zero l y p q =
    let there = subst (λ w. slice_get (f w) l ≡ Some y) (sym (from_some q.1)) q.2 in
    let m = offset f xs i + j in
    let within : l < length (f x) = slice_get_within _ _ _ there in
    absurd (all.differ l (length (f x) + m) y (omega arith) (in_first (f x) (flat_map f xs) l y there)
    (in_second (f x) (flat_map f xs) m y (in_flat_map f xs i j y (p.0, p.1, p.2))))
one_part f (x ∷ xs) all (suc i) j (suc k) l y p q =
    let rest = one_part f xs
    (record {
      differ = λ a b z less at_a at_b.
          all.differ (length (f x) + a) (length (f x) + b) z (omega (arith, less)) (in_second (f x) (flat_map f xs) a z at_a)
          (in_second (f x) (flat_map f xs) b z at_b);
    }) i j k l y (p.0, p.1, p.2) (q.0, q.1, q.2) in
    (ap suc rest.0, rest.1)

-- what holds of all elements holds of the element at each index
pub all_at : {X : Type 0} (P : X → Type 0) (xs : List X) → All P xs → (i : ℕ) (x : X) → slice_get xs i ≡ Some x → P x
all_at P xs all i x at = subst P (get_or_from_slice_get xs i x x at) (all i x (slice_get_within xs i x at))

-- ---- files that are made once, as one list and by edge

-- no file is made already or comes again, so each is made once
pub made_once : (g : List EdgeValue) → NoneMadeTwice [] (made_files g) → MadeOnce g
made_once g once i j k l file p q = one_part made_by g (record { differ = λ m n x less at again. once n x again (inr (m, less, at)) }) i j k l file p q

-- with no files made already, the first that comes again is the first that has an earlier index
pub first_again : (files : List (List ℕ)) (k : ℕ) (file : List ℕ) → IsFirstAt (IsMadeTwice [] files) files k file → IsFirstAt (StandsBefore files) files k file
first_again files k file first =
    record {
      here = first.here;
      holds = elim first.holds [ inl h ↦ let none = h.2 in cc | inr h ↦ h ];
      before = λ j f less at h. first.before j f less at (inr h);
    }
