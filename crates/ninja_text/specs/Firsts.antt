-- The first element of a list with a property, the first pair of elements that are alike, and the
-- first element that repeats an earlier one.
use Rattle.std.specs.Prelude.{◌≡◌, ℕ, ◌<◌, List, take, slice_get, Some}

-- The element at index k is x. P holds of k and x, and of no earlier index and its element.
pub record IsFirstAt {X : Type 0} (P : ℕ → X → Type 0) (xs : List X) (k : ℕ) (x : X) : Type 0 where
  pub here : slice_get xs k ≡ Some x
  pub holds : P k x
  pub before : (j : ℕ) (y : X) → j < k → slice_get xs j ≡ Some y → P j y → ⊥

-- The element at index k is x. P holds of x, and of no earlier element.
abbrev pub IsFirst : {X : Type 0} → (X → Type 0) → List X → ℕ → X → Type 0
IsFirst P xs k x = IsFirstAt (λ _ y. P y) xs k x

-- The first repetition. The element y at index j is the first that is like an earlier one, and x at
-- index i is the first element that y is like.
pub record IsFirstRepetition {X : Type 0} (Alike : X → X → Type 0) (xs : List X) (i j : ℕ) (x y : X)
    : Type 0 where
  pub earlier : i < j
  pub x_here : slice_get xs i ≡ Some x
  pub y_here : slice_get xs j ≡ Some y
  pub alike : Alike x y
  -- no element before y is like an earlier one
  pub y_first : (k l : ℕ) (v w : X) → k < l → l < j → slice_get xs k ≡ Some v
      → slice_get xs l ≡ Some w → Alike v w → ⊥
  -- no element before x is like y
  pub x_first : (k : ℕ) (v : X) → k < i → slice_get xs k ≡ Some v → Alike v y → ⊥

-- no two elements of the list are equal
pub record AllDiffer {X : Type 0} (xs : List X) : Type 0 where
  pub differ : (i j : ℕ) (x : X) → i < j → slice_get xs i ≡ Some x → slice_get xs j ≡ Some x → ⊥

-- the elements at i and j are equal, and all elements before j differ
pub record RepeatsFirst {X : Type 0} (xs : List X) (i j : ℕ) : Type 0 where
  pub repeated : X
  pub earlier : i < j
  pub here : slice_get xs i ≡ Some repeated
  pub again : slice_get xs j ≡ Some repeated
  pub before : AllDiffer (take j xs)
