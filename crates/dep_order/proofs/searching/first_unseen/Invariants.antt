use Rattle.dep_order.specs.inner.Postorders.{AreSeen}
use Rattle.dep_order.proofs.searching.first_unseen.Given as goal

abbrev pub invariant-loop-index : goal.invariant-loop-index
invariant-loop-index l = AreSeen l.row l.seen l.from l.index
