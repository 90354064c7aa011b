use Rattle.std.proofs.Common.{arith, ℕ, ◌<◌, Vec, ap, ◌∙◌, length, slice_index, Global}
use Rattle.dep_order.proofs.Searches.{visited_old, visited_new, read_none, read_some}
use Rattle.dep_order.proofs.searching.mark_row.Goals as goal
use Rattle.dep_order.proofs.searching.mark_row.Goals.{then-is_none+in_ok-push, else-is_none}

pub loop-node-preserved : goal.loop-node-preserved
loop-node-preserved c =
    let lt : slice_index c.args.row.now c.loop-node.node-index < length c.loop-node.marks.items =
    omega (arith, c.requires c.loop-node.node-index 0 c.loop-node-test.true) in
    elim c.if-is_none.branch [
      | then-is_none+in_ok-push w ↦
          rw w.marks-is (rw (ap (λ (v : Vec ℕ Global). v.items) w.next-is ∙ w.in_ok-push.ensures.items)
          (visited_new c.args.row.now c.loop-node.node-index c.loop-node-test.true lt
          (read_none c.loop-node.marks.items (slice_index c.args.row.now c.loop-node.node-index) lt c.index.ensures
          c.is_none.ensures w.if-is_none.true) c.loop-node.invariant))
      | else-is_none w ↦
          let old = read_some c.loop-node.marks.items (slice_index c.args.row.now c.loop-node.node-index) lt c.index.ensures
          c.is_none.ensures w.if-is_none.false in
          rw w.marks-is (rw w.next-is (visited_old c.args.row.now c.loop-node.node-index c.loop-node-test.true old.1 c.loop-node.invariant))
    ]
