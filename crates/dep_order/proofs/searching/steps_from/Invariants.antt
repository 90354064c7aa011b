use Rattle.std.proofs.Common.{◌+◌, length, take}
use Rattle.dep_order.specs.Prelude.{lists, unmarked, AreAdvanced}
use Rattle.dep_order.proofs.Searches.{IsSearching}
use Rattle.dep_order.proofs.searching.steps_from.Given as goal

abbrev pub invariant-levels : goal.invariant-levels
invariant-levels l = IsSearching (lists l.slices) l.start l.steps.items l.frontier.items l.count

abbrev pub decreases-levels : goal.decreases-levels
decreases-levels l = unmarked l.steps.items + length l.frontier.items

-- the frontier so far leads to these nodes
abbrev pub invariant-loop-node : goal.invariant-loop-node
invariant-loop-node l = AreAdvanced (lists l.slices) (take l.node-index l.node-items) l.count l.initial.steps.items l.steps.items l.next.items
