use Rattle.std.proofs.Common.{◌≤◌}
use Rattle.dep_order.specs.Prelude.{lists, NodeNeeds, IsCycle, first_of}
use Rattle.dep_order.proofs.Words.{Numbers}
use Rattle.dep_order.proofs.cycles.least_cycle.Given as goal

-- no cycle begins with a node before
abbrev pub invariant-loop-first : goal.invariant-loop-first
invariant-loop-first l = (cycle : Numbers) → IsCycle (NodeNeeds (lists l.needs)) cycle → l.first ≤ first_of cycle
