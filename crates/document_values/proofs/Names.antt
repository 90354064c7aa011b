-- The parts of a name, read from the front.
use Rattle.std.proofs.Common.{◌≡◌, ℕ, ◌<◌, ◌≤◌, ◌==◌, if◌then◌else◌, List, [], ◌∷◌, Bool, true, false, refl, sym, ap, ◌∙◌, ◌&&◌, arith, length, count_by, nat_le, not, ◌||◌, cond}
use Rattle.std.proofs.lemmas.Bool.Decides.{nat_tests}
use Rattle.std.proofs.lemmas.Grind.{common_steps}
use Rattle.std.specs.List.{list_all, slice_split, onto_first}
use Rattle.document_values.specs.Name.{name_limit, is_separator, is_not_empty, is_name_byte, is_name}

-- whether no part of the rest is empty, if the part that is being read is empty so far or not
abbrev full_from : Bool → List ℕ → Bool
full_from fresh [] = not fresh
full_from fresh (x ∷ xs) = if is_separator x then not fresh && full_from true xs else full_from false xs

abbrev onward : Bool → List (List ℕ) → Bool
onward fresh [] = true
onward fresh (p ∷ ps) = (not fresh || is_not_empty p) && list_all is_not_empty ps

at_separator : (fresh : Bool) (rest : List (List ℕ)) → not fresh && onward true rest ≡ onward fresh ([] ∷ rest)
at_separator true rest = refl
at_separator false [] = refl
at_separator false (p ∷ ps) = refl

some_bytes : (x : ℕ) (p : List ℕ) → is_not_empty (x ∷ p) ≡ true
some_bytes x p = search arith

at_other : (fresh : Bool) (x : ℕ) (rest : List (List ℕ)) → onward false rest ≡ onward fresh (onto_first x rest)
at_other true x [] = refl
at_other false x [] = refl
at_other true x (p ∷ ps) = rw (some_bytes x p) refl
at_other false x (p ∷ ps) = refl

turn : (b fresh : Bool) (x : ℕ) (rest : List (List ℕ)) →
    cond b (not fresh && onward true rest) (onward false rest) ≡ onward fresh (cond b ([] ∷ rest) (onto_first x rest))
turn true fresh x rest = at_separator fresh rest
turn false fresh x rest = at_other fresh x rest

from_onward : (fresh : Bool) (xs : List ℕ) → full_from fresh xs ≡ onward fresh (slice_split is_separator xs)
from_onward true [] = refl
from_onward false [] = refl
from_onward fresh (x ∷ xs) = rw (from_onward true xs, from_onward false xs) (turn (is_separator x) fresh x (slice_split is_separator xs))

onward_all : (ps : List (List ℕ)) → onward true ps ≡ list_all is_not_empty ps
onward_all [] = refl
onward_all (p ∷ ps) = refl

full_parts : (xs : List ℕ) → full_from true xs ≡ list_all is_not_empty (slice_split is_separator xs)
full_parts xs = from_onward true xs ∙ onward_all (slice_split is_separator xs)

-- whether the rest has one colon at most, or none if one was read
abbrev few_colons : Bool → List ℕ → Bool
few_colons colon xs = nat_le (count_by (λ b. b == 58) xs) (if colon then 0 else 1)

counted : (colon : Bool) (x : ℕ) (xs : List ℕ) → few_colons colon (x ∷ xs) ≡ (not ((x == 58) && colon) && few_colons (colon || (x == 58)) xs)
counted true x xs = grind (arith, common_steps)
counted false x xs = grind (arith, common_steps)

full_step : (is fresh : Bool) (xs : List ℕ) → cond is (not fresh && full_from true xs) (full_from false xs) ≡ (not (is && fresh) && full_from is xs)
full_step true true xs = refl
full_step true false xs = refl
full_step false true xs = refl
full_step false false xs = refl

-- the same of all three, in one pass: a colon was read or not, and the part is empty so far or not
abbrev pub name_from : Bool → Bool → List ℕ → Bool
name_from colon fresh [] = not fresh
name_from colon fresh (x ∷ xs) =
    if not (is_name_byte x) || ((x == 58) && colon) || (is_separator x && fresh) then false else name_from (colon || (x == 58)) (is_separator x) xs

parted : (byte second empty few full bytes : Bool) →
    cond (not byte || second || empty) false (few && full && bytes) ≡ ((not second && few) && (not empty && full) && (byte && bytes))
parted true true empty few full bytes = refl
parted true false true true full bytes = refl
parted true false true false full bytes = refl
parted true false false true true bytes = refl
parted true false false true false bytes = refl
parted true false false false full bytes = refl
parted false true empty few full bytes = refl
parted false false true true full bytes = refl
parted false false true false full bytes = refl
parted false false false true true bytes = refl
parted false false false true false bytes = refl
parted false false false false full bytes = refl

name_from_is : (colon fresh : Bool) (xs : List ℕ) → name_from colon fresh xs ≡ (few_colons colon xs && full_from fresh xs && list_all is_name_byte xs)
name_from_is true true [] = refl
name_from_is true false [] = refl
name_from_is false true [] = refl
name_from_is false false [] = refl
name_from_is colon fresh (x ∷ xs) =
    let colons = counted colon x xs in
    let parts = full_step (is_separator x) fresh xs in
    let few = few_colons (colon || (x == 58)) xs in
    let full = full_from (is_separator x) xs in
    let bytes = list_all is_name_byte xs in
    ap (λ b. cond (not (is_name_byte x) || ((x == 58) && colon) || (is_separator x && fresh)) false b) (name_from_is (colon || (x == 58)) (is_separator x) xs)
    ∙ parted (is_name_byte x) ((x == 58) && colon) (is_separator x && fresh) few full bytes
    ∙ sym (ap (λ b. b && full_from fresh (x ∷ xs) && list_all is_name_byte (x ∷ xs)) colons ∙
    ap (λ b. (not ((x == 58) && colon) && few) && b && list_all is_name_byte (x ∷ xs)) parts)

name_parts : (xs : List ℕ) →
    name_from false true xs ≡ (nat_le (count_by (λ b. b == 58) xs) 1 && list_all is_not_empty (slice_split is_separator xs) && list_all is_name_byte xs)
name_parts xs = name_from_is false true xs ∙ rw (full_parts xs) refl

-- the limit apart, it is the whole test
pub name_is : (xs : List ℕ) → length xs ≤ name_limit → name_from false true xs ≡ is_name xs
unfolding is_name
name_is [] h = refl
name_is (x ∷ xs) h =
    let some : nat_le 1 (length (x ∷ xs)) ≡ true = grind (arith, nat_tests) in
    let small : nat_le (length (x ∷ xs)) name_limit ≡ true = grind (arith, nat_tests) in
    rw (some, small) (name_parts (x ∷ xs))

pub too_long : (xs : List ℕ) → name_limit < length xs → is_name xs ≡ false
unfolding is_name
too_long xs h =
    let some : nat_le 1 (length xs) ≡ true = grind (arith, nat_tests) in
    let long : nat_le (length xs) name_limit ≡ false = grind (arith, nat_tests) in
    rw (some, long) refl
