use Rattle.std.proofs.Common.{◌≤◌}
use Rattle.dep_order.specs.Prelude.{lists, NodeNeeds, IsCycle, first_of}
use Rattle.dep_order.proofs.Words.{Numbers}
use Rattle.dep_order.proofs.cycles.first_suspect.Given as goal

-- no cycle begins with a node before
abbrev pub invariant-loop-node : goal.invariant-loop-node
invariant-loop-node l = (cycle : Numbers) → IsCycle (NodeNeeds (lists l.needs)) cycle → l.node ≤ first_of cycle
