-- Loops that write a text for each element of a list.
use Rattle.std.proofs.Common.{◌≡◌, ℕ, ◌+◌, ◌<◌, List, [], ◌∷◌, ◌++◌, length, take, map, ◌≤◌, get_or, ap, sym, ◌∙◌, append_assoc, append-nil, Result, Ok, Err}
use Rattle.module_maps.specs.Prelude.{OnErr, Bor, Text, flat_map}
use Rattle.std.proofs.lemmas.List.{take_more, take_all, take-map, length-map}
use Rattle.std.proofs.lemmas.List.Folds.{flat_map-map}
use Rattle.std.proofs.lemmas.Simd.{map-map}
use Rattle.std.proofs.lemmas.Grind.{flat_map-append}

-- a borrowed name and path, and what is seen of them
abbrev pub Lent : Type 0
Lent = Bor Text × Bor Text

abbrev pub seen : Lent → Text × Text
seen pair = (pair.0.now, pair.1.now)

-- one more element was written
pub one-more : {X : Type 0} (f : X → Text) (start old new : Text) (xs : List X) (i : ℕ) (x : X) → i < length xs → x ≡ get_or xs i x →
    old ≡ start ++ flat_map f (take i xs) → new ≡ old ++ f x → new ≡ start ++ flat_map f (take (i + 1) xs)
one-more f start old new xs i x within is before now =
    let next : take (i + 1) xs ≡ take i xs ++ x ∷ [] = take_more xs i x within ∙ ap (λ y. take i xs ++ y ∷ []) (sym is) in
    let last : flat_map f (take (i + 1) xs) ≡ flat_map f (take i xs) ++ f x =
    ap (flat_map f) next ∙ flat_map-append f (take i xs) (x ∷ []) ∙ ap (λ t. flat_map f (take i xs) ++ t) (append-nil (f x)) in
    now ∙ ap (λ t. t ++ f x) before ∙ append_assoc start (flat_map f (take i xs)) (f x) ∙ ap (λ t. start ++ t) (sym last)

-- all were written, of what is seen of the elements
pub written-all : {A B C : Type 0} (f : B → List C) (v : A → B) (start new : List C) (xs : List A) (i : ℕ) → length xs ≤ i →
    new ≡ start ++ flat_map (λ x. f (v x)) (take i xs) → new ≡ start ++ flat_map f (map v xs)
written-all f v start new xs i end is = is ∙ ap (λ ys. start ++ flat_map (λ x. f (v x)) ys) (take_all i xs end) ∙
    ap (λ t. start ++ t) (sym (flat_map-map f v xs))

pub pushed-all : {A B C : Type 0} (f : B → C) (v : A → B) (start new : List C) (xs : List A) (i : ℕ) → length xs ≤ i →
    new ≡ start ++ map (λ x. f (v x)) (take i xs) → new ≡ start ++ map f (map v xs)
pushed-all f v start new xs i end is = is ∙ ap (λ ys. start ++ map (λ x. f (v x)) ys) (take_all i xs end) ∙ ap (λ t. start ++ t) (sym (map-map f v xs))

-- what holds anyway holds after an error
pub on-error : {T E : Type 0} (result : Result T E) (P : Type 0) → P → OnErr result P
on-error (Ok value) P holds = tt
on-error (Err error) P holds = holds

-- if not all were pushed, the first were
pub pushed-first : {A B C : Type 0} (f : B → C) (v : A → B) (start new : List C) (xs : List A) (i : ℕ) → i < length xs →
    new ≡ start ++ map (λ x. f (v x)) (take i xs) →
    (k : ℕ) × (k < length (map f (map v xs))) × (new ≡ start ++ take k (map f (map v xs)))
pushed-first f v start new xs i within is =
    (i, rw (length-map, length-map) within, is ∙ ap (λ ys. start ++ ys) (sym (take-map (λ x. f (v x)) i xs) ∙ ap (take i) (sym (map-map f v xs))))
