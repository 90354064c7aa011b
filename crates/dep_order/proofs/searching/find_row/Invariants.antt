use Rattle.std.proofs.Common.{take}
use Rattle.dep_order.specs.inner.Found.{IsRowFound}
use Rattle.dep_order.proofs.searching.find_row.Given as goal

abbrev pub invariant-loop-node : goal.invariant-loop-node
invariant-loop-node l = IsRowFound (take l.node-index l.row) l.fn.indexes.items l.fn.found.items l.indexes.items l.found.items
