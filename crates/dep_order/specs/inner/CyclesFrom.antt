-- Cycles that begin with one thing, and the least of them.
use Rattle.std.specs.Prelude.{◌≡◌, ℕ, ◌≤◌, List, length, Option, MatchOption, Vec}
use Rattle.std.specs.declared.alloc.Global.{Global}
use Rattle.dep_order.specs.Cycles.{IsCycle, IsAtMost, first_of}

-- there is a cycle
abbrev pub HasCycle : (ℕ → ℕ → Type 0) → Type 0
HasCycle Needs = (cycle : List ℕ) × IsCycle Needs cycle

-- No cycle that begins with the first thing is shorter, and of those of that length this list is
-- least.
pub record IsLeastFrom (Needs : ℕ → ℕ → Type 0) (first : ℕ) (list : List ℕ) : Type 0 where
  pub is_cycle : IsCycle Needs list
  pub begins_with : first_of list ≡ first
  pub shortest : (other : List ℕ) → IsCycle Needs other → first_of other ≡ first →
      length list ≤ length other
  pub least_list : (other : List ℕ) → IsCycle Needs other → first_of other ≡ first →
      length other ≡ length list → IsAtMost list other

-- no cycle begins with the first thing
abbrev pub NoneFrom : (ℕ → ℕ → Type 0) → ℕ → Type 0
NoneFrom Needs first = (cycle : List ℕ) → IsCycle Needs cycle → first_of cycle ≡ first → ⊥

-- the least cycle that begins with the first thing, or none if no cycle begins with it
abbrev pub IsLeastFromIfAny : (ℕ → ℕ → Type 0) → ℕ → Option (Vec ℕ Global) → Type 0
IsLeastFromIfAny Needs first found =
    MatchOption found (NoneFrom Needs first) (λ cycle. IsLeastFrom Needs first cycle.items)
