use Rattle.std.proofs.Common.{take}
use Rattle.dep_order.specs.inner.Marks.{AreMarked}
use Rattle.dep_order.proofs.searching.mark_row.Given as goal

abbrev pub invariant-loop-node : goal.invariant-loop-node
invariant-loop-node l = AreMarked (take l.node-index l.row) l.mark l.fn.marks.items l.marks.items l.fn.next.items l.next.items
