use Rattle.std.proofs.Common.{arith, ◌∙◌, sym, length}
use Rattle.std.proofs.lemmas.List.{nil_from_length}
use Rattle.dep_order.specs.Prelude.{lists}
use Rattle.dep_order.proofs.Orders.{same}
use Rattle.dep_order.proofs.Releases.{length_lists}
use Rattle.dep_order.proofs.Answered.{none_from, none_without_needs, none_without_users, first_in_range}
use Rattle.dep_order.proofs.cycles.first_suspect.Goals as goal
use Rattle.dep_order.proofs.cycles.first_suspect.Goals.{else-not-is_empty-via-then-not-is_empty+else-not-is_empty-2, else-not-is_empty-via-else-not-is_empty}

pub loop-node-preserved : goal.loop-node-preserved
loop-node-preserved c =
    none_from
    (elim c.else-not-is_empty.branch [
      | else-not-is_empty-via-then-not-is_empty+else-not-is_empty-2 w ↦
          none_without_users c.requires.users
          (sym w.row_of-then-not-is_empty.ensures ∙
          nil_from_length w.row_of-then-not-is_empty.result.now
          (same (length w.row_of-then-not-is_empty.result.now) 0 (sym w.is_empty-then-not-is_empty.ensures ∙ w.if-not-is_empty-2.false)))
      | else-not-is_empty-via-else-not-is_empty w ↦
          none_without_needs (lists c.args.needs.now)
          (sym c.row_of.ensures ∙ nil_from_length c.row_of.result.now (same (length c.row_of.result.now) 0 (sym c.is_empty.ensures ∙ w.if-not-is_empty.false)))
    ])
    c.loop-node.invariant

pub unreachable-requires : goal.unreachable-requires
unreachable-requires c =
    let cycle = c.requires.cycle in
    absurd (omega (
      arith,
      c.loop-node.invariant cycle.0 cycle.1,
      first_in_range (lists c.args.needs.now) cycle.0 c.requires.nodes cycle.1,
      length_lists c.args.needs.now,
    ))
