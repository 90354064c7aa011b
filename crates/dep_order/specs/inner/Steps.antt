-- The fewest steps from a node to each other one.
use Rattle.std.specs.Prelude.{◌≡◌, ℕ, ◌+◌, ◌≤◌, List, length, Contains, Option, Some, None, MatchOption, ◌⊎◌}
use Rattle.dep_order.specs.Needs.{NodeNeeds}
use Rattle.dep_order.specs.inner.Marks.{mark_of, unmarked, HasMark, KeepsMarks}

-- The start is 0 steps away. Every other node with a distance is one step farther than some node
-- that leads to it, and no node is more than one step farther than one that leads to it.
pub record AreSteps (count : ℕ) (Leads : ℕ → ℕ → Type 0) (from : ℕ)
    (steps : List (Option ℕ)) : Type 0 where
  pub as_many : length steps ≡ count
  pub start : mark_of steps from ≡ Some 0
  pub only_start : (node : ℕ) → mark_of steps node ≡ Some 0 → node ≡ from
  pub behind : (node fewer : ℕ) → mark_of steps node ≡ Some (fewer + 1) →
      (before : ℕ) × (mark_of steps before ≡ Some fewer) × Leads before node
  pub nearest : (before node count : ℕ) → mark_of steps before ≡ Some count → Leads before node →
      (fewer : ℕ) × (mark_of steps node ≡ Some fewer) × (fewer ≤ count + 1)

-- a node of the frontier leads to the node
abbrev pub IsLedTo : List (List ℕ) → List ℕ → ℕ → Type 0
IsLedTo rows frontier node = (before : ℕ) × Contains frontier before × NodeNeeds rows before node

-- the nodes that the frontier leads to and that had no distance now have this one, and they are the
-- next frontier
pub record AreAdvanced (rows : List (List ℕ)) (frontier : List ℕ) (count : ℕ)
    (steps new_steps : List (Option ℕ)) (next : List ℕ) : Type 0 where
  pub as_many : length new_steps ≡ length steps
  pub kept : KeepsMarks steps new_steps
  pub came : (node k : ℕ) → mark_of new_steps node ≡ Some k →
      (mark_of steps node ≡ Some k)
      ⊎ ((k ≡ count) × Contains next node × IsLedTo rows frontier node)
  pub reached : (before node : ℕ) → Contains frontier before → NodeNeeds rows before node →
      HasMark new_steps node
  pub next_came : (node : ℕ) → Contains next node → mark_of new_steps node ≡ Some count
  pub accounted : unmarked new_steps + length next ≡ unmarked steps

-- a node of the row has this distance
abbrev pub SomeIsAway : List ℕ → List (Option ℕ) → ℕ → Type 0
SomeIsAway row steps count = (node : ℕ) × Contains row node × (mark_of steps node ≡ Some count)

-- no node of the row is fewer steps away
abbrev pub NoneIsNearer : List ℕ → List (Option ℕ) → ℕ → Type 0
NoneIsNearer row steps count =
    (node k : ℕ) → Contains row node → mark_of steps node ≡ Some k → count ≤ k

-- the fewest steps that a node of the row is away, if steps lead to any
abbrev pub IsFewest : List ℕ → List (Option ℕ) → Option ℕ → Type 0
IsFewest row steps best =
    MatchOption best
    ((node : ℕ) → Contains row node → mark_of steps node ≡ None)
    (λ count. SomeIsAway row steps count × NoneIsNearer row steps count)

-- the least node of the row at this distance
pub record IsLeastAt (row : List ℕ) (steps : List (Option ℕ)) (count node : ℕ) : Type 0 where
  pub in_row : Contains row node
  pub steps_away : mark_of steps node ≡ Some count
  pub least : (other : ℕ) → Contains row other → mark_of steps other ≡ Some count → node ≤ other

-- if one thing needs the other, the other leads back to it
abbrev pub LeadsBack : (ℕ → ℕ → Type 0) → ℕ → ℕ → Type 0
LeadsBack Needs needed thing = Needs thing needed
