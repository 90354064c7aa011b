-- Lemmas on lists: of any elements, of numbers, of what info files are read as, and of the names of private modules.
use Rattle.std.proofs.Common.{◌≢◌, true≢false, ◌≡◌, ℕ, zero, suc, ◌<◌, ◌≤◌, List, [], ◌∷◌, ◌++◌, map, take, Some, refl, ap, ap₂, subst, ◌∙◌, arith, append-nil, slice_get, All, flat_map, ◌+◌, ◌*◌, ◌⊎◌, inl, inr, length, Option, None, IfSome, MatchOption, sym, length-append, ◌||◌, Bool, true, false, cond, bytes_eq}
use Rattle.std.proofs.lemmas.List.Elements.{All-get_or, All-nil, All-cons, All-head, All-tail, All-append}
use Rattle.std.proofs.lemmas.Grind.{flat_map-append}
use Rattle.std.proofs.lemmas.Option.{slice_get_within, get_or_from_slice_get}
use Rattle.ninja_text.proofs.ForCallers.{same_some, from_push, take_next}
use Rattle.std.proofs.Math.Nat.{mul-le-mul_right}
use Rattle.std.proofs.lemmas.Slice.Eq.{bytes_eq-Decides}
use Rattle.collate_core.specs.Prelude.{AllByRecursion, list_any, InfoValue, ModuleValue, CollatedValue, IsAdded, IsReadAs, AreKnown, Text, PathText, Name, Numbers, Modules, insert_key, is_private_name, module_of}

-- ---- lists of any elements

-- what holds of each element holds of one of them
pub all_at : {X : Type 0} (P : X → Type 0) (xs : List X) (k : ℕ) {x : X} → All P xs → slice_get xs k ≡ Some x → P x
all_at P xs k {x} all here = subst P (get_or_from_slice_get xs k x x here) (All-get_or P xs k x (slice_get_within xs k x here) all)

pub flat_map_last : {A B : Type 0} (f : A → List B) (xs : List A) (x : A) → flat_map f (xs ++ x ∷ []) ≡ flat_map f xs ++ f x
flat_map_last f xs x = flat_map-append f xs (x ∷ []) ∙ ap (λ ys. flat_map f xs ++ ys) (append-nil (f x))

-- what holds of two lists in a row holds of either
pub all_front : {X : Type 0} (P : X → Type 0) (xs ys : List X) → All P (xs ++ ys) → All P xs
all_front P [] ys all = All-nil P
all_front P (x ∷ xs) ys all = All-cons P x xs (All-head P x (xs ++ ys) all) (all_front P xs ys (All-tail P x (xs ++ ys) all))

pub all_back : {X : Type 0} (P : X → Type 0) (xs ys : List X) → All P (xs ++ ys) → All P ys
all_back P [] ys all = all
all_back P (x ∷ xs) ys all = all_back P xs ys (All-tail P x (xs ++ ys) all)

-- what holds of a mapped list holds of what each element is mapped to
pub all_mapped : {A B : Type 0} (P : B → Type 0) (f : A → B) (xs : List A) → All P (map f xs) → All (λ x. P (f x)) xs
all_mapped P f [] all = All-nil (λ x. P (f x))
all_mapped P f (x ∷ xs) all = All-cons (λ x. P (f x)) x xs (All-head P (f x) (map f xs) all) (all_mapped P f xs (All-tail P (f x) (map f xs) all))

-- each element of each part
pub all_parts : {A B : Type 0} (P : B → Type 0) (f : A → List B) (Q : A → Type 0) → ((x : A) → Q x → All P (f x)) → (xs : List A) → AllByRecursion Q xs →
    All P (flat_map f xs)
all_parts P f Q each [] h = All-nil P
all_parts P f Q each (x ∷ xs) h = All-append P (f x) (flat_map f xs) (each x h.0) (all_parts P f Q each xs h.1)

-- the same by recursion on a mapped list
pub map_recursion : {A B : Type 0} (Q : A → Type 0) (P : B → Type 0) (f : A → B) → ((x : A) → Q x → P (f x)) → (xs : List A) → AllByRecursion Q xs →
    AllByRecursion P (map f xs)
map_recursion Q P f to [] h = tt
map_recursion Q P f to (x ∷ xs) h = (to x h.0, map_recursion Q P f to xs h.1)

-- an element before an index
pub in_take : {X : Type 0} (xs : List X) (n k : ℕ) (x : X) → slice_get xs k ≡ Some x → k < n → slice_get (take n xs) k ≡ Some x
in_take [] n k x e less = cc
in_take (y ∷ xs) zero k x e less = absurd (omega arith)
in_take (y ∷ xs) (suc n) zero x e less = e
in_take (y ∷ xs) (suc n) (suc k) x e less = in_take xs n k x e (omega arith)

-- fewer of the first
pub take_less : {X : Type 0} (i j : ℕ) (xs : List X) → i ≤ j → take i (take j xs) ≡ take i xs
take_less zero j xs le = refl
take_less (suc i) zero xs le = absurd (omega arith)
take_less (suc i) (suc j) [] le = refl
take_less (suc i) (suc j) (x ∷ xs) le = ap (λ ys. x ∷ ys) (take_less i j xs (omega arith))

-- two files are one, or they are not
pub same_or_not : (file other : PathText) → (other ≡ file) ⊎ (other ≢ file)
same_or_not file other = by (bytes_eq other file) refl
  where
    by : (equal : Bool) → bytes_eq other file ≡ equal → (other ≡ file) ⊎ (other ≢ file)
    by true equal = inl ((bytes_eq-Decides other file).0 equal)
    by false differ = inr (λ same. absurd (true≢false (sym ((bytes_eq-Decides other file).1 same) ∙ differ)))

-- ---- numbers of two levels

below_of : (y : ℕ) (xs : Numbers) (n : ℕ) → ((k x : ℕ) → slice_get xs k ≡ Some x → x < n) → (k x : ℕ) → slice_get (y ∷ xs) k ≡ Some x → x < suc y + n
below_of y xs n rest zero x e = let same = same_some _ _ e in omega arith
below_of y xs n rest (suc k) x e = let less = rest k x e in omega arith

-- a number above all of a list
pub above : (xs : Numbers) → (n : ℕ) × ((k x : ℕ) → slice_get xs k ≡ Some x → x < n)
above [] = (0, λ k x e. cc)
above (y ∷ xs) = let rest = above xs in (suc y + rest.0, below_of y xs rest.0 rest.1)

-- a first number that falls, or stays while a second falls, is one number that falls
pub two_levels : {bound r s p q : ℕ} → q < bound → (r < p) ⊎ ((r ≡ p) × (s < q)) → s < bound → r * bound + s < p * bound + q
two_levels {bound} {r} {s} {p} {q} lq (inl less) ls = let step : (r + 1) * bound ≤ p * bound = mul-le-mul_right bound (omega arith) in omega (arith, step)
two_levels {bound} {r} {s} {p} {q} lq (inr same) ls = let first = ap (λ x. x * bound) same.0 in omega (arith, first, same.1)

-- ---- what the info files of a project's targets are read as: one more target

module _ (outs : List CollatedValue) (known : List (Option InfoValue)) (are : AreKnown outs known) (out : CollatedValue) (entry : Option InfoValue)
    (read : IfSome entry (IsReadAs out.info)) where
  -- the target is an earlier one, and so is what is known, or both are the last
  each_more : {k : ℕ} {o : CollatedValue} {info : InfoValue} → (slice_get outs k ≡ Some o) ⊎ ((k ≡ length outs) × (out ≡ o)) →
      (slice_get known k ≡ Some (Some info)) ⊎ ((k ≡ length known) × (entry ≡ Some info)) → IsReadAs o.info info
  each_more {k} {o} {info} (inl at) (inl also) = are.each k o info at also
  each_more {k} {o} {info} (inl at) (inr also) = absurd (let within : k < length outs = slice_get_within _ _ _ at in omega (arith, also.0, are.count))
  each_more {k} {o} {info} (inr at) (inl also) = absurd (let within : k < length known = slice_get_within _ _ _ also in omega (arith, at.0, are.count))
  each_more {k} {o} {info} (inr at) (inr also) =
      subst (λ (x : CollatedValue). IsReadAs x.info info) at.1 (subst (λ (e : Option InfoValue). IfSome e (IsReadAs out.info)) also.1 read)

  known_push : AreKnown (outs ++ out ∷ []) (known ++ entry ∷ [])
  known_push = record {
    count = omega (arith, length-append outs (out ∷ []), length-append known (entry ∷ []), are.count);
    each = λ k o info at also. each_more (from_push outs out k o at) (from_push known entry k (Some info) also);
  }

-- so it is when the pool has the info, or nothing in its place
pub known_added : {outs : List CollatedValue} {known : List (Option InfoValue)} → AreKnown outs known → (out : CollatedValue) (info : Option InfoValue) →
    IfSome info (IsReadAs out.info) → {new : List (Option InfoValue)} → IsAdded known info new → AreKnown (outs ++ out ∷ []) new
known_added {outs} {known} are out info read {new} (inl same) = subst (AreKnown (outs ++ out ∷ [])) (sym same) (known_push outs known are out info read)
known_added {outs} {known} are out info read {new} (inr same) = subst (AreKnown (outs ++ out ∷ [])) (sym same) (known_push outs known are out None tt)

-- ---- the names of private modules, as a set

or_assoc : (a b c : Bool) → ((a || b) || c) ≡ (a || (b || c))
or_assoc true b c = refl
or_assoc false b c = refl

or_false : (a : Bool) → (a || false) ≡ a
or_false true = refl
or_false false = refl

-- one more name
any_last : (test : Text → Bool) (names : List Name) (last : Numbers) → list_any test (names ++ last ∷ []) ≡ (list_any test names || test last)
any_last test [] last = or_false (test last)
any_last test (x ∷ xs) last = ap (λ t. test x || t) (any_last test xs last) ∙ sym (or_assoc (test x) (list_any test xs) (test last))

absorbed : (a b : Bool) → (b ≡ true → a ≡ true) → a ≡ (a || b)
absorbed true b from = refl
absorbed false true from = from refl
absorbed false false from = refl

-- a name that is inserted is one of the set, and no other comes or goes
inserted : (keys : List Text) (key name : Name) → is_private_name (insert_key bytes_eq keys key) name ≡ (is_private_name keys name || bytes_eq name key)
inserted keys key name = by (list_any (bytes_eq key) keys) refl
  where
    by : (t : Bool) → list_any (bytes_eq key) keys ≡ t →
        is_private_name (cond t keys (keys ++ key ∷ [])) name ≡ (is_private_name keys name || bytes_eq name key)
    by true there = absorbed (is_private_name keys name) (bytes_eq name key)
        (λ same. ap (λ n. list_any (bytes_eq n) keys) ((bytes_eq-Decides name key).0 same) ∙ there)
    by false absent = any_last (bytes_eq name) keys key

pub one_more_name : (names keys : List Name) (k : ℕ) {key : Name} → slice_get names k ≡ Some key →
    ((name : Name) → is_private_name keys name ≡ is_private_name (take k names) name)
    → (name : Name) → is_private_name (insert_key bytes_eq keys key) name ≡ is_private_name (take (k + 1) names) name
one_more_name names keys k {key} here so_far name =
    inserted keys key name ∙ ap (λ t. t || bytes_eq name key) (so_far name) ∙ sym (any_last (bytes_eq name) (take k names) key) ∙
    ap (λ xs. is_private_name xs name) (sym (take_next names k key here))

-- lists that have the same names make the same modules
pub modules_same : (kept other : List Name) → ((name : Name) → is_private_name kept name ≡ is_private_name other name) →
    (required pairs : Modules) → map (module_of kept required) pairs ≡ map (module_of other required) pairs
modules_same kept other same required [] = refl
modules_same kept other same required (pair ∷ pairs) =
    ap₂ (λ (b : Bool) (ms : List ModuleValue). record { name = pair.0; file = pair.1; required = required; is_private = b } ∷ ms) (same pair.0)
    (modules_same kept other same required pairs)

-- what holds where there is no value
pub of_none : {T : Type 0} {No : Type 0} (P : T → Type 0) {found : Option T} → found ≡ None → MatchOption found No P → No
of_none {No} P {found} is h = subst (λ o. MatchOption o No P) is h
