-- Nodes put in order one by one, by smallest numbers.
use Rattle.std.specs.Prelude.{◌≡◌, ℕ, ◌+◌, ◌<◌, List, length, slice_index, Contains, ◌⊎◌, ◌↔◌}
use Rattle.dep_order.specs.Needs.{NodeNeeds}
use Rattle.dep_order.specs.Orders.{EachSmallest}
use Rattle.dep_order.specs.inner.Users.{count_of}

-- Each user has one missing need less for each time that it is listed. A user without missing needs
-- becomes ready.
pub record AreReleased (users missing new_missing ready new_ready : List ℕ) : Type 0 where
  pub as_many : length new_missing ≡ length missing
  pub counts : (node : ℕ) →
      slice_index new_missing node + count_of node users ≡ slice_index missing node
  pub now_ready : (node : ℕ) →
      Contains new_ready node
      ↔ (Contains ready node ⊎ (Contains users node × (slice_index new_missing node ≡ 0)))

-- Nodes are put in order by smallest numbers until none is ready: each node that is not in order
-- needs another that is not.
pub record AreOrdered (needs : List (List ℕ)) (ordered : List ℕ) : Type 0 where
  pub each : EachSmallest (length needs) (NodeNeeds needs) ordered
  pub no_more_ready : (node : ℕ) → node < length needs → ¬ Contains ordered node →
      (needed : ℕ) × NodeNeeds needs node needed × (¬ Contains ordered needed)
