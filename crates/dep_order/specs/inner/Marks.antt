-- Numbers that are given to nodes, one to each at most.
use Rattle.std.specs.Prelude.{◌≡◌, ℕ, ◌+◌, List, length, slice_index_or, Contains, Option, Some, None, is_none, count_by, ◌⊎◌}

-- the number at a node, if it has one
abbrev pub mark_of : List (Option ℕ) → ℕ → Option ℕ
mark_of marks node = slice_index_or marks node None

-- how many nodes have none
abbrev pub unmarked : List (Option ℕ) → ℕ
unmarked marks = count_by is_none marks

-- the node has a number
abbrev pub HasMark : List (Option ℕ) → ℕ → Type 0
HasMark marks node = (k : ℕ) × (mark_of marks node ≡ Some k)

-- a node that has a number keeps it
abbrev pub KeepsMarks : List (Option ℕ) → List (Option ℕ) → Type 0
KeepsMarks marks new_marks =
    (node k : ℕ) → mark_of marks node ≡ Some k → mark_of new_marks node ≡ Some k

-- the nodes of the row that had no mark have this one, and are appended to the next nodes
pub record AreMarked (row : List ℕ) (mark : ℕ) (marks new_marks : List (Option ℕ))
    (next new_next : List ℕ) : Type 0 where
  pub as_many : length new_marks ≡ length marks
  pub kept : KeepsMarks marks new_marks
  pub came : (node k : ℕ) → mark_of new_marks node ≡ Some k →
      (mark_of marks node ≡ Some k) ⊎ ((k ≡ mark) × Contains row node × Contains new_next node)
  pub reached : (node : ℕ) → Contains row node → HasMark new_marks node
  pub next_kept : (node : ℕ) → Contains next node → Contains new_next node
  pub next_came : (node : ℕ) → Contains new_next node →
      Contains next node ⊎ (mark_of new_marks node ≡ Some mark)
  pub accounted : unmarked new_marks + length new_next ≡ unmarked marks + length next
