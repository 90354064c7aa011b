use Rattle.std.proofs.Common.{◌≡◌, ◌-◌, length}
use Rattle.dep_order.proofs.Searches.{AreReachedSoFar}
use Rattle.dep_order.proofs.searching.Reaching.from.Given as goal

-- the graph stays, and this much of it is reached
abbrev pub invariant-search : goal.invariant-search
invariant-search l = record {
  same : l.self-inside.graph.now ≡ l.initial.self-inside.graph.now;
  reached : AreReachedSoFar l.self-inside.graph.now l.node l.next l.self-inside.indexes.items l.found.items;
}

abbrev pub decreases-search : goal.decreases-search
decreases-search l = length l.self-inside.graph.now - l.next
