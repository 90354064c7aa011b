use Rattle.std.proofs.Common.{◌≡◌, ◌+◌, [], length, vec_len}
use Rattle.dep_order.specs.Prelude.{lists, unmarked, AreNumbersFrom, IsNumberAdded}
use Rattle.dep_order.proofs.Connected.{AreComponentsSoFar, AreNumbersSoFar}
use Rattle.dep_order.proofs.Words.{Marks}
use Rattle.dep_order.proofs.cycles.components_of.Given as goal

abbrev pub invariant-loop-root : goal.invariant-loop-root
invariant-loop-root l = record {
  so_far : AreComponentsSoFar (lists l.needs) (lists l.users) l.initial.postorder.items l.postorder.items l.components.items;
  none_wait : l.waiting.items ≡ [];
}

abbrev pub decreases-loop-root : goal.decreases-loop-root
decreases-loop-root l = vec_len l.postorder

-- what was added to some numbers when the root had its own is added to them still
abbrev pub invariant-loop-node : goal.invariant-loop-node
invariant-loop-node l = record {
  so_far : AreNumbersSoFar (lists l.users) l.number l.components.items l.waiting.items;
  added : (first : Marks) → AreNumbersFrom (lists l.users) (l.number + 1) first
      → IsNumberAdded (lists l.users) l.root l.number first l.initial.components.items → IsNumberAdded (lists l.users) l.root l.number first l.components.items;
}

-- each turn numbers a node or takes one that waited
abbrev pub decreases-loop-node : goal.decreases-loop-node
decreases-loop-node l = unmarked l.components.items + length l.waiting.items
