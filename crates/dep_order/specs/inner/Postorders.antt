-- The postorder of a depth-first search.
use Rattle.std.specs.Prelude.{◌≡◌, ℕ, ◌+◌, ◌<◌, ◌≤◌, Bool, true, false, List, [], ◌∷◌, length, slice_index, slice_index_or, Contains, All, ◌⊎◌, Option, Some, None}
use Rattle.dep_order.specs.Needs.{needs_of, NodeNeeds, Reaches}
use Rattle.dep_order.specs.inner.Users.{one_if, count_of}

-- whether the search has reached a node
abbrev pub is_seen : List Bool → ℕ → Bool
is_seen seen node = slice_index_or seen node false

-- the node is before that index
abbrev pub StandsBefore : List ℕ → ℕ → ℕ → Type 0
StandsBefore left index node = (other : ℕ) × (other < index) × (slice_index left other ≡ node)

-- the node is at that index or after it, and leads to each from the index up to itself
abbrev pub LeadsUpToItself : List (List ℕ) → List ℕ → ℕ → ℕ → Type 0
LeadsUpToItself needs left index node =
    (other : ℕ) × (index ≤ other) × (other < length left) × (slice_index left other ≡ node)
    × ((k : ℕ) → index ≤ k → k ≤ other → Reaches (NodeNeeds needs) node (slice_index left k))

-- the needed node is before that index, or leads to each node from there up to itself
abbrev pub IsBeforeOrLeads : List (List ℕ) → List ℕ → ℕ → ℕ → Type 0
IsBeforeOrLeads needs left index needed =
    StandsBefore left index needed ⊎ LeadsUpToItself needs left index needed

-- Each node is there once. What a node needs comes before it, or leads to it and to all between.
pub record IsPostorder (needs : List (List ℕ)) (postorder : List ℕ) : Type 0 where
  pub nodes : All (λ node. node < length needs) postorder
  pub once : (node : ℕ) → node < length needs → count_of node postorder ≡ 1
  pub left : (index needed : ℕ) → index < length postorder →
      NodeNeeds needs (slice_index postorder index) needed →
      IsBeforeOrLeads needs postorder index needed

-- each of these things needs the next
abbrev pub IsWalk : (ℕ → ℕ → Type 0) → List ℕ → Type 0
IsWalk Needs [] = Unit {0}
IsWalk Needs (thing ∷ []) = Unit {0}
IsWalk Needs (thing ∷ next ∷ things) = Needs thing next × IsWalk Needs (next ∷ things)

-- the node is on the path, and leads to each that was left from that index on
abbrev pub IsOnPathAndLeads : List (List ℕ) → List ℕ → List ℕ → ℕ → ℕ → Type 0
IsOnPathAndLeads needs path left index node =
    Contains path node
    × ((k : ℕ) → index ≤ k → k < length left → Reaches (NodeNeeds needs) node (slice_index left k))

-- A depth-first search: the nodes that it left, and the path to the current node. The first nodes
-- of each node's row are scanned, as many as its number says, and these are seen.
pub record IsInDepth (needs : List (List ℕ)) (seen : List Bool)
    (scanned path left : List ℕ) : Type 0 where
  pub seen_each : length seen ≡ length needs
  pub scanned_each : length scanned ≡ length needs
  pub counted : (node : ℕ) → count_of node left + count_of node path ≡ one_if (is_seen seen node)
  pub scanned_seen : (node k : ℕ) → k < slice_index scanned node →
      k < length (needs_of needs node) →
      is_seen seen (slice_index (needs_of needs node) k) ≡ true
  pub walk : IsWalk (NodeNeeds needs) path
  pub settled : (index needed : ℕ) → index < length left →
      NodeNeeds needs (slice_index left index) needed →
      IsBeforeOrLeads needs left index needed ⊎ IsOnPathAndLeads needs path left index needed

-- every node that was seen still is
abbrev pub SeesMore : List Bool → List Bool → Type 0
SeesMore seen new_seen = (node : ℕ) → is_seen seen node ≡ true → is_seen new_seen node ≡ true

-- the nodes of the row from the one index up to the other are seen
abbrev pub AreSeen : List ℕ → List Bool → ℕ → ℕ → Type 0
AreSeen row seen from end =
    (k : ℕ) → from ≤ k → k < end → is_seen seen (slice_index row k) ≡ true

-- the first index, from this one on, whose node is not seen; none if and only if all nodes from
-- there on are seen. Nothing is said about the nodes before.
abbrev pub IsFirstUnseen : List ℕ → List Bool → ℕ → Option ℕ → Type 0
IsFirstUnseen row seen from None = AreSeen row seen from (length row)
IsFirstUnseen row seen from (Some index) =
    (from ≤ index)
    × (index < length row)
    × (is_seen seen (slice_index row index) ≡ false)
    × AreSeen row seen from index
