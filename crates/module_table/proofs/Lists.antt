-- What loops push, lists that differ or have the same indexes, and the first that is rejected.
use Rattle.std.proofs.Common.{◌≡◌, ℕ, ◌+◌, List, [], ◌∷◌, ◌++◌, map, take, Some, ap, sym, ◌∙◌, append_assoc, slice_get, zero, suc, length, refl, subst, arith, ◌<◌, true, false, ⊎_elim, not, Option, None, position, get_or, append-nil, bytes_eq, cond, IfSome, IfNone, is_some, slice_set}
use Rattle.std.proofs.lemmas.List.{map-append, length-take-le, length-set, get_or-set_same, get_or-set_other}
use mathlib.Core.Logic.{◌≢◌}
use Rattle.ninja_text.proofs.ForCallers.{take_next, same_some, from_push, in_take, to_map, from_map, from_take, differ_push, not_among, found_if, new_if}
use Rattle.module_table.specs.Prelude.{flat_map, enumerate_from, AllZip, list_any, AcceptsAll, bytes_decides, AllDiffer, RepeatsFirst, IsFirstRepetition, IsFirst, Name}
use Rattle.std.proofs.lemmas.Grind.{flat_map-append}
use Rattle.std.proofs.lemmas.Option.{slice_get-get_or, slice_get_within, slice_get_read, get_or_from_slice_get}
use Rattle.std.proofs.lemmas.List.Quantifiers.{position-Some}
use Rattle.std.proofs.lemmas.Slice.Zip.{AllZip-long}
use Rattle.module_table.proofs.Words.{At}

-- what a loop reads at an index
pub read_at : {X : Type 0} (xs : List X) (i : ℕ) {x : X} → i < length xs → x ≡ get_or xs i x → At xs i x
read_at xs i {x} lt is = slice_get_read xs (length xs) i x refl lt is

pub one_value : {X : Type 0} {x y : X} → Some x ≡ Some y → x ≡ y
one_value e = same_some _ _ e

-- what is read once is one value
pub one_there : {X : Type 0} {o : Option X} {x y : X} → o ≡ Some x → o ≡ Some y → x ≡ y
one_there a b = one_value (sym a ∙ b)

-- the same lists have the same elements
pub same_reads : {X : Type 0} {xs ys : List X} (k : ℕ) → xs ≡ ys → slice_get xs k ≡ slice_get ys k
same_reads k same = ap (λ zs. slice_get zs k) same

-- ---- loops that push

-- a loop that pushes what each element becomes
pub pushes_next : {A B Y : Type 0} (g : A → B) (f : Y → B) (ys : List Y) {longer : List Y} (y : Y) (old : List B) (now : List A) {new : List A} (a : A) →
    longer ≡ ys ++ y ∷ [] → map g now ≡ old ++ map f ys → new ≡ now ++ a ∷ [] → g a ≡ f y → map g new ≡ old ++ map f longer
pushes_next g f ys y old now a next before pushed is =
    ap (map g) pushed ∙ map-append g now (a ∷ []) ∙ ap (λ zs. zs ++ g a ∷ []) before ∙ append_assoc old (map f ys) (g a ∷ [])
    ∙ ap (λ zs. old ++ zs) (ap (λ z. map f ys ++ z ∷ []) is ∙ sym (ap (map f) next ∙ map-append f ys (y ∷ [])))

-- a loop that makes something of each element of a list
pub maps_next : {X Y : Type 0} (f : X → Y) (xs : List X) (i : ℕ) {x : X} {y : Y} {now new : List Y} → At xs i x → now ≡ map f (take i xs) →
    new ≡ now ++ y ∷ [] → y ≡ f x → new ≡ map f (take (i + 1) xs)
maps_next f xs i {x} {y} at before pushed is =
    pushed ∙ ap (λ ys. ys ++ y ∷ []) before ∙ ap (λ z. map f (take i xs) ++ z ∷ []) is ∙
    sym (ap (map f) (take_next xs i x at) ∙ map-append f (take i xs) (x ∷ []))

-- ---- lists whose elements have the same indexes as those of the other

pub zip_append : {A B : Type 0} (R : A → B → Type 0) (xs us : List A) (ys vs : List B) → AllZip R xs ys → AllZip R us vs → AllZip R (xs ++ us) (ys ++ vs)
zip_append R [] us [] vs h g = g
zip_append R [] us (y ∷ ys) vs h g = absurd h
zip_append R (x ∷ xs) us [] vs h g = absurd h
zip_append R (x ∷ xs) us (y ∷ ys) vs h g = (h.0, zip_append R xs us ys vs h.1 g)

-- the parts of each element
pub zip_flat_map : {A B C : Type 0} (R : B → C → Type 0) (f : A → List B) (g : A → List C) (xs : List A) →
    ((k : ℕ) (x : A) → At xs k x → AllZip R (f x) (g x)) → AllZip R (flat_map f xs) (flat_map g xs)
zip_flat_map R f g [] h = tt
zip_flat_map R f g (x ∷ xs) h = zip_append R (f x) (flat_map f xs) (g x) (flat_map g xs) (h 0 x refl) (zip_flat_map R f g xs (λ k y at. h (suc k) y at))

-- what is made of the elements, and of their numbers
pub zip_numbered : {A B C : Type 0} (R : B → C → Type 0) (f : A → B) (g : ℕ × A → C) (n : ℕ) (xs : List A) →
    ((k : ℕ) (x : A) → At xs k x → R (f x) (g (n + k, x))) → AllZip R (map f xs) (map g (enumerate_from n xs))
zip_numbered R f g n [] h = tt
zip_numbered R f g n (x ∷ xs) h =
    let here : n + 0 ≡ n = omega arith in (
      subst (λ m. R (f x) (g (m, x))) here (h 0 x refl),
      zip_numbered R f g (n + 1) xs (λ k y at. let there : n + suc k ≡ (n + 1) + k = omega arith in subst (λ m. R (f y) (g (m, y))) there (h (suc k) y at)),
    )

-- the same with the lists the other way round
pub zip_flip : {A B : Type 0} (R : A → B → Type 0) (xs : List A) (ys : List B) → AllZip (λ y x. R x y) ys xs → AllZip R xs ys
zip_flip R [] [] h = tt
zip_flip R [] (y ∷ ys) h = absurd h
zip_flip R (x ∷ xs) [] h = absurd h
zip_flip R (x ∷ xs) (y ∷ ys) h = (h.0, zip_flip R xs ys h.1)

-- what has the index of an element, and what holds once something else has it
pub zip_there : {A B : Type 0} (R : A → B → Type 0) (xs : List A) (ys : List B) (k : ℕ) (x : A) → AllZip R xs ys → At xs k x →
    (y : B) × (At ys k y) × R x y × ((z : B) → R x z → AllZip R xs (slice_set ys k z))
zip_there R [] ys k x h at = cc
zip_there R (a ∷ xs) [] k x h at = absurd h
zip_there R (a ∷ xs) (b ∷ ys) zero x h at =
    let same = one_value at in (b, refl, subst (λ v. R v b) same h.0, λ z here. (subst (λ v. R v z) (sym same) here, h.1))
zip_there R (a ∷ xs) (b ∷ ys) (suc k) x h at = let rest = zip_there R xs ys k x h.1 at in (rest.0, rest.1, rest.2, λ z here. (h.0, rest.3 z here))

pub zip_back : {A B : Type 0} (R : A → B → Type 0) (xs : List A) (ys : List B) (k : ℕ) (y : B) → AllZip R xs ys → At ys k y → (x : A) × (At xs k x) × R x y
zip_back R xs [] k y h at = cc
zip_back R [] (z ∷ ys) k y h at = absurd h
zip_back R (x ∷ xs) (z ∷ ys) zero y h at = (x, refl, subst (R x) (one_value at) h.0)
zip_back R (x ∷ xs) (z ∷ ys) (suc k) y h at = zip_back R xs ys k y h.1 at

pub zip_length : {A B : Type 0} (R : A → B → Type 0) (xs : List A) (ys : List B) → AllZip R xs ys → length xs ≡ length ys
zip_length R xs ys h = sym (AllZip-long R xs ys h)

-- ---- what is asked of each requirement, and the first that is rejected

-- what a loop that checks a list knows after the next element
pub accepts_next : {X : Type 0} (Accepted : X → Type 0) (xs : List X) (k : ℕ) {x : X} → At xs k x → AcceptsAll Accepted (take k xs) → Accepted x →
    AcceptsAll Accepted (take (k + 1) xs)
accepts_next Accepted xs k {x} at before good = subst (AcceptsAll Accepted) (sym (take_next xs k x at)) (record {
  each = λ i y at_i. ⊎_elim (λ old. before.each i y old) (λ last. subst Accepted last.1 good) (from_push (take k xs) x i y at_i);
})

-- the first that is rejected is the first of which P holds
pub first_of : {X : Type 0} {Accepted : X → Type 0} (P : X → Type 0) {xs : List X} {k : ℕ} {x : X} → At xs k x → AcceptsAll Accepted (take k xs) → P x →
    ((y : X) → Accepted y → P y → ⊥) → IsFirst P xs k x
first_of P {xs} {k} at before holds fails = record { here = at; holds = holds; before = λ i y lt at_i. fails y (before.each i y (in_take k xs i y lt at_i)) }

-- the parts of one more element, without its number
pub gathers_more : {X A : Type 0} (f : X → List A) (xs : List X) (i : ℕ) {x : X} (old : List A) {now new : List A} → At xs i x →
    now ≡ old ++ flat_map f (take i xs) → new ≡ now ++ f x → new ≡ old ++ flat_map f (take (i + 1) xs)
gathers_more f xs i {x} old at before more =
    more ∙ ap (λ ys. ys ++ f x) before ∙ append_assoc old (flat_map f (take i xs)) (f x)
    ∙ ap (λ ys. old ++ ys)
    (sym (ap (flat_map f) (take_next xs i x at) ∙ flat_map-append f (take i xs) (x ∷ []) ∙ ap (λ ys. flat_map f (take i xs) ++ ys) (append-nil (f x))))

-- ---- lists in which all differ, and the first repetition in a list

-- the first few of two lists, past the first
pub take_behind : {X : Type 0} (xs ys : List X) (n : ℕ) → take (length xs + n) (xs ++ ys) ≡ xs ++ take n ys
take_behind [] ys n = let e : 0 + n ≡ n = omega arith in rw e refl
take_behind (x ∷ xs) ys n = let e : suc (length xs) + n ≡ suc (length xs + n) = omega arith in rw e (ap (λ zs. x ∷ zs) (take_behind xs ys n))

length_before : {X : Type 0} (xs : List X) (i : ℕ) (x : X) → At xs i x → length (take i xs) ≡ i
length_before xs i x e = let lt = slice_get_within xs i x e in length-take-le i xs (omega arith)

numbered_push : {X : Type 0} (n : ℕ) (xs : List X) (x : X) → enumerate_from n (xs ++ x ∷ []) ≡ enumerate_from n xs ++ (n + length xs, x) ∷ []
numbered_push n [] x = let e : n + 0 ≡ n = omega arith in rw e refl
numbered_push n (y ∷ xs) x = let e : n + suc (length xs) ≡ (n + 1) + length xs = omega arith in rw e (ap (λ ys. (n, y) ∷ ys) (numbered_push (n + 1) xs x))

-- one more element, by its number
pub numbered_next : {X : Type 0} (xs : List X) (i : ℕ) (x : X) → At xs i x → enumerate_from 0 (take (i + 1) xs) ≡ enumerate_from 0 (take i xs) ++ (i, x) ∷ []
numbered_next xs i x at =
    let e : 0 + length (take i xs) ≡ i = omega (arith, length_before xs i x at) in
    ap (enumerate_from 0) (take_next xs i x at) ∙ numbered_push 0 (take i xs) x ∙ ap (λ n. enumerate_from 0 (take i xs) ++ (n, x) ∷ []) e

-- the parts of one more element
parts_next : {X A : Type 0} (f : ℕ × X → List A) (xs : List X) (i : ℕ) (x : X) → At xs i x →
    flat_map f (enumerate_from 0 (take (i + 1) xs)) ≡ flat_map f (enumerate_from 0 (take i xs)) ++ f (i, x)
parts_next f xs i x at =
    ap (flat_map f) (numbered_next xs i x at) ∙ flat_map-append f (enumerate_from 0 (take i xs)) ((i, x) ∷ []) ∙
    ap (λ ys. flat_map f (enumerate_from 0 (take i xs)) ++ ys) (append-nil (f (i, x)))

-- a loop that gathers the parts of each element
pub gathers_next : {X A : Type 0} (f : ℕ × X → List A) (xs : List X) (i : ℕ) {x : X} (old : List A) {now new : List A} → At xs i x →
    now ≡ old ++ flat_map f (enumerate_from 0 (take i xs)) → new ≡ now ++ f (i, x) → new ≡ old ++ flat_map f (enumerate_from 0 (take (i + 1) xs))
gathers_next f xs i {x} old at before more =
    more ∙ ap (λ ys. ys ++ f (i, x)) before ∙ append_assoc old (flat_map f (enumerate_from 0 (take i xs))) (f (i, x)) ∙
    ap (λ ys. old ++ ys) (sym (parts_next f xs i x at))

-- a text is put into a table of the texts before it
module _ {X : Type 0} (f : X → List ℕ) (texts : List Name) (j : ℕ) (x : X) (keys : List X) {new : List X} (at : At texts j (f x))
    (same : map f keys ≡ take j texts) (all : AllDiffer (take j texts))
    (put : new ≡ cond (list_any (λ k. bytes_eq (f x) (f k)) keys) keys (keys ++ x ∷ [])) where
  -- it was there
  pub repeats_if_found : (i : ℕ) → false ≡ not (list_any (λ k. bytes_eq (f x) (f k)) keys) →
      (y : X) × (At new i y) × (bytes_eq (f x) (f y) ≡ true) → RepeatsFirst texts i j
  repeats_if_found i old (y, stored, alike) =
      let kept : new ≡ keys = put ∙ ap (λ b. cond b keys (keys ++ x ∷ [])) (found_if _ old) in
      let here = same_reads i (sym same) ∙ to_map f keys i y (same_reads i (sym kept) ∙ stored) in
      let from = from_take j texts i (f y) here in
      record {
        repeated = f x;
        earlier = from.0;
        here = from.1 ∙ ap Some (sym ((bytes_decides (f x) (f y)).0 alike));
        again = at;
        before = all;
      }

  -- it was not
  pub added_if_new : true ≡ not (list_any (λ k. bytes_eq (f x) (f k)) keys) → (map f new ≡ take (j + 1) texts) × AllDiffer (take (j + 1) texts)
  added_if_new fresh = (
    ap (map f) (put ∙ ap (λ b. cond b keys (keys ++ x ∷ [])) (new_if _ fresh)) ∙ map-append f keys (x ∷ []) ∙ ap (λ ts. ts ++ f x ∷ []) same ∙
        sym (take_next texts j (f x) at),
    subst AllDiffer (sym (take_next texts j (f x) at))
        (differ_push (take j texts) (f x) all (λ k at_k. not_among f keys x (new_if _ fresh) k (same_reads k same ∙ at_k))),
  )

-- what never repeats differs
pub differ_by : {X : Type 0} (f : X → Name) (xs : List X) → ((i j : ℕ) (a b : X) → i < j → At xs i a → At xs j b → f a ≡ f b → ⊥) → AllDiffer (map f xs)
differ_by f xs apart = record {
  differ = λ i j name lt at_i at_j. let a = from_map f xs i name at_i in let b = from_map f xs j name at_j in apart i j a.0 b.0 lt a.1 b.1 (a.2 ∙ sym b.2);
}

-- the first repetition of what is seen of elements
pub repetition_of : {X : Type 0} (g : X → List ℕ) (xs : List X) (i j : ℕ) → RepeatsFirst (map g xs) i j →
    (x : X) × (y : X) × IsFirstRepetition (λ a b. g a ≡ g b) xs i j x y
repetition_of {X} g xs i j r =
    let at_i = from_map g xs i r.repeated r.here in
    let at_j = from_map g xs j r.repeated r.again in (
      at_i.0,
      at_j.0,
      record {
        earlier = r.earlier;
        x_here = at_i.1;
        y_here = at_j.1;
        alike = at_i.2 ∙ sym at_j.2;
        y_first = λ k l v w kl lj at_k at_l same.
            r.before.differ k l (g v) kl (in_take j (map g xs) k (g v) (omega (arith, kl, lj)) (to_map g xs k v at_k))
            (in_take j (map g xs) l (g v) lj (to_map g xs l w at_l ∙ ap Some (sym same)));
        x_first = λ k v ki at_k same.
            r.before.differ k i (g v) ki (in_take j (map g xs) k (g v) (let e = r.earlier in omega (arith, ki, e)) (to_map g xs k v at_k))
            (in_take j (map g xs) i (g v) r.earlier (r.here ∙ ap Some (sym at_j.2 ∙ sym same)));
      },
    )

-- rows that are made of elements
pub row_is : {X R Y : Type 0} (f : X → Y) (g : R → Y) (xs : List X) (rows : List R) (k : ℕ) (x : X) (row : R) → map g rows ≡ map f xs → At xs k x →
    row ≡ get_or rows k row → g row ≡ f x
row_is f g [] rows k x row same at here = cc
row_is f g (y ∷ xs) [] k x row same at here = cc
row_is f g (y ∷ xs) (r ∷ rows) zero x row same at here = cc
row_is f g (y ∷ xs) (r ∷ rows) (suc k) x row same at here = let rest : map g rows ≡ map f xs = cc in row_is f g xs rows k x row rest at here

-- the first repetition in a list of texts
pub text_repetition : (xs : List (List ℕ)) (i j : ℕ) (x : List ℕ) → RepeatsFirst xs i j → At xs j x → IsFirstRepetition (λ a b. a ≡ b) xs i j x x
text_repetition xs i j x r at =
    let same = one_there r.again at in
    record {
      earlier = r.earlier;
      x_here = r.here ∙ ap Some same;
      y_here = at;
      alike = refl;
      y_first = λ k l v w kl lj at_k at_l e.
          r.before.differ k l v kl (in_take j xs k v (omega (arith, kl, lj)) at_k) (in_take j xs l v lj (at_l ∙ ap Some (sym e)));
      x_first = λ k v ki at_k e.
          r.before.differ k i v ki (in_take j xs k v (let lt = r.earlier in omega (arith, ki, lt)) at_k)
          (in_take j xs i v r.earlier (r.here ∙ ap Some (same ∙ sym e)));
    }

-- what a look-up finds, and what it means that it finds none
pub finds : (keys : List Name) (name : Name) (r : Option ℕ) → r ≡ position (λ k. bytes_eq name k) keys → IfSome r (λ k. At keys k name)
finds keys name None e = tt
finds keys name (Some k) e =
    let p = position-Some (λ key. bytes_eq name key) keys k [] (sym e) in
    slice_get-get_or keys k [] p.0 ∙ ap Some (sym ((bytes_decides name (get_or keys k [])).0 p.1))

pub misses : (keys : List Name) (name : Name) (r : Option ℕ) → is_some r ≡ list_any (λ k. bytes_eq name k) keys → IfNone r ((k : ℕ) → At keys k name → ⊥)
misses keys name None e = λ k at. not_among (λ n. n) keys name (sym e) k (to_map (λ n. n) keys k name at)
misses keys name (Some k) e = tt

-- ---- a list with another element at an index

pub set_there : {X : Type 0} (xs : List X) (i : ℕ) (x : X) → i < length xs → At (slice_set xs i x) i x
set_there xs i x within =
    slice_get-get_or (slice_set xs i x) i x (omega (arith, within, length-set xs i x)) ∙ ap Some (get_or-set_same xs i x x within)

pub set_elsewhere : {X : Type 0} (xs : List X) (i j : ℕ) (x y : X) → At xs j y → j ≢ i → At (slice_set xs i x) j y
set_elsewhere xs i j x y at other =
    let within = slice_get_within xs j y at in
    slice_get-get_or (slice_set xs i x) j y (omega (arith, within, length-set xs i x))
    ∙ ap Some (get_or-set_other xs i j x y other ∙ get_or_from_slice_get xs j y y at)
