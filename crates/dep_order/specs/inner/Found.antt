-- What a search has found: nodes, and the index of each of them.
use Rattle.std.specs.Prelude.{◌≡◌, ℕ, ◌<◌, List, ◌++◌, length, slice_index, Contains, All}

-- The index of each node that is found is stored at the node. At other nodes any number may be
-- stored.
pub record AreFound (indexes found : List ℕ) : Type 0 where
  pub nodes : All (λ node. node < length indexes) found
  pub kept : (k : ℕ) → k < length found → slice_index indexes (slice_index found k) ≡ k

-- the nodes of the row are also found, after those that were found before
pub record IsRowFound (row indexes found new_indexes new_found : List ℕ) : Type 0 where
  pub as_many : length new_indexes ≡ length indexes
  pub are_found : AreFound new_indexes new_found
  pub behind : List ℕ
  pub all : new_found ≡ found ++ behind
  pub of_row : (node : ℕ) → Contains behind node → Contains row node
  pub whole : (node : ℕ) → Contains row node → Contains new_found node
