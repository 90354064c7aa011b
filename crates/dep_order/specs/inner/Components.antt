-- The strongly connected components of a digraph, as a number for each node.
use Rattle.std.specs.Prelude.{◌≡◌, ℕ, ◌<◌, ◌≤◌, List, ◌∷◌, length, Contains, Option, Some, None, All, ◌⊎◌, ◌↔◌}
use Rattle.dep_order.specs.Needs.{NodeNeeds, IsChain, Reaches}
use Rattle.dep_order.specs.inner.Marks.{mark_of, HasMark, KeepsMarks}
use Rattle.dep_order.specs.inner.Steps.{LeadsBack}

-- both nodes have the same number, or neither has one
abbrev pub HaveSame : List (Option ℕ) → ℕ → ℕ → Type 0
HaveSame components node other = mark_of components node ≡ mark_of components other

-- each of the two leads to the other
abbrev pub LeadToEachOther : List (List ℕ) → ℕ → ℕ → Type 0
LeadToEachOther needs node other =
    Reaches (NodeNeeds needs) node other × Reaches (NodeNeeds needs) other node

-- Two nodes have the same number if and only if each leads to the other.
pub record AreComponents (needs : List (List ℕ)) (components : List (Option ℕ)) : Type 0 where
  pub each : length components ≡ length needs
  pub same : (node other : ℕ) → node < length needs → other < length needs →
      HaveSame components node other ↔ LeadToEachOther needs node other

-- some node of the row is in the node's component
abbrev pub SharesComponent : List ℕ → List (Option ℕ) → ℕ → Type 0
SharesComponent row components node =
    (other : ℕ) × Contains row other × HaveSame components other node

-- No number is below this one, and each user of a node that has a number has one that is no lower.
pub record AreNumbersFrom (users : List (List ℕ)) (lowest : ℕ)
    (numbers : List (Option ℕ)) : Type 0 where
  pub as_many : length numbers ≡ length users
  pub none_lower : (node number : ℕ) → mark_of numbers node ≡ Some number → lowest ≤ number
  pub never_falls : (node user number : ℕ) → mark_of numbers node ≡ Some number →
      NodeNeeds users node user →
      (higher : ℕ) × (mark_of numbers user ≡ Some higher) × (number ≤ higher)

-- a chain of needs leads from the node to the root, and no node between has a number
abbrev pub HasFreeChain : List (List ℕ) → List (Option ℕ) → ℕ → ℕ → Type 0
HasFreeChain users numbers node root =
    (things : List ℕ) × IsChain (LeadsBack (NodeNeeds users)) (node ∷ things) root
    × All (λ thing. mark_of numbers thing ≡ None) things

-- by needs the node leads to the root, and neither it nor a node between has a number
abbrev pub LeadsFree : List (List ℕ) → List (Option ℕ) → ℕ → ℕ → Type 0
LeadsFree users numbers node root =
    (mark_of numbers node ≡ None) × ((node ≡ root) ⊎ HasFreeChain users numbers node root)

-- The root has a number now. The only other nodes that got one had none and lead to the root
-- through such nodes. Their number is this one.
pub record IsNumberAdded (users : List (List ℕ)) (root number : ℕ)
    (numbers new_numbers : List (Option ℕ)) : Type 0 where
  pub kept : KeepsMarks numbers new_numbers
  pub came : (node k : ℕ) → mark_of new_numbers node ≡ Some k →
      (mark_of numbers node ≡ Some k) ⊎ ((k ≡ number) × LeadsFree users numbers node root)
  pub root_has : HasMark new_numbers root
