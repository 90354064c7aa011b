-- Cycles of needs, and the least of them.
use Rattle.std.specs.Prelude.{◌≡◌, ◌≢◌, ℕ, ◌≤◌, [], ◌∷◌, length, slice_index, Contains, All}
use Rattle.std.specs.Ordering.{nat_cmp}
use Rattle.std.specs.declared.cmp.Ordering.TheVariants.{Greater}
use Rattle.std.specs.Cmp.Lexicographic.{slice_cmp}
use Rattle.dep_order.specs.Numbers.{Numbers}
use Rattle.dep_order.specs.Needs.{IsChain}

-- each of these things needs the next, and the last needs the first; there is at least one thing
abbrev pub IsCycle : (ℕ → ℕ → Type 0) → Numbers → Type 0
IsCycle Needs [] = ⊥
IsCycle Needs (first ∷ others) = IsChain Needs (first ∷ others) first

-- the thing that a cycle begins with
abbrev pub first_of : Numbers → ℕ
first_of cycle = slice_index cycle 0

-- the list is at most the other, compared number by number from the front
abbrev pub IsAtMost : Numbers → Numbers → Type 0
IsAtMost list other = slice_cmp nat_cmp list other ≢ Greater

-- The first thing is the least that is on any cycle, and no cycle through it is shorter. This list
-- is the least of the cycles of its length that begin with this thing.
pub record IsLeastCycle (Needs : ℕ → ℕ → Type 0) (cycle : Numbers) : Type 0 where
  pub is_cycle : IsCycle Needs cycle
  pub least_first : (other : Numbers) → IsCycle Needs other →
      All (λ thing. first_of cycle ≤ thing) other
  pub shortest : (other : Numbers) → IsCycle Needs other → Contains other (first_of cycle) →
      length cycle ≤ length other
  pub least_list : (other : Numbers) → IsCycle Needs other → first_of other ≡ first_of cycle →
      length other ≡ length cycle → IsAtMost cycle other
