use Rattle.std.proofs.Common.{Some}
use Rattle.dep_order.specs.Prelude.{lists, needs_of, IsFewest}
use Rattle.dep_order.proofs.Greedy.{IsChosen}
use Rattle.dep_order.proofs.cycles.cycle_through.Given as goal

abbrev pub invariant-loop-chosen : goal.invariant-loop-chosen
invariant-loop-chosen l = record {
  fewest : IsFewest (needs_of (lists l.needs) l.first) l.steps (Some l.count);
  chosen : IsChosen (lists l.needs) l.first l.count l.steps l.cycle.items l.node l.chosen;
}
