use Rattle.std.proofs.Common.{take}
use Rattle.dep_order.specs.inner.Components.{SharesComponent}
use Rattle.dep_order.proofs.cycles.shares_component.Given as goal

-- none of the row so far is in the node's component
abbrev pub invariant-loop-other : goal.invariant-loop-other
invariant-loop-other l = SharesComponent (take l.other-index l.row) l.components l.node → ⊥
