use Rattle.std.proofs.lemmas.Grind.{common_steps}
use Rattle.std.proofs.Common.{rules, ◌<◌, ◌∙◌, ap, arith, replicate, sym, length, slice_index, None}
use Rattle.std.proofs.lemmas.List.{take_all}
use Rattle.dep_order.specs.Prelude.{All, lists}
use Rattle.dep_order.proofs.Releases.{length_lists}
use Rattle.dep_order.proofs.Answered.{row_nodes}
use Rattle.dep_order.proofs.Searches.{search_begun, next_level, all_levels, nonempty, emptied, frontier_in_range, advanced_more}
use Rattle.dep_order.proofs.searching.steps_from.Goals as goal
use Rattle.dep_order.proofs.searching.steps_from.Goals.{After-deref-node-items}

pub levels-init : goal.levels-init
levels-init c =
    rw c.in_ok-frontier.ensures.items
    (search_begun (omega (arith, length_lists c.args.slices.now))
    ((c.in_ok-steps.ensures.items_if_clones_equal (search rules)) ∙ ap (λ n. replicate n None) (sym (length_lists c.args.slices.now))))

-- the nodes of the frontier are nodes
in_range : (c : After-deref-node-items) → All (λ node. node < length c.args.slices.now) c.deref-node-items.result.now
in_range c = rw c.deref-node-items.ensures.value (frontier_in_range (length_lists c.args.slices.now) c.levels.invariant)

pub mark_row-requires : goal.mark_row-requires
mark_row-requires c =
    let in' = in_range (goal.at.mark_row-requires c).After-deref-node-items c.loop-node.node-index 0 c.loop-node-test.true in
    rw c.row_of.ensures (row_nodes (lists c.args.slices.now) (slice_index c.deref-node-items.result.now c.loop-node.node-index) (length c.loop-node.steps.items)
    (omega (arith, length_lists c.args.slices.now))
    (omega (arith, length_lists c.args.slices.now)) c.requires.nodes)

pub loop-node-preserved : goal.loop-node-preserved
loop-node-preserved c =
    advanced_more c.deref-node-items.result.now c.loop-node.node-index
    c.loop-node-test.true c.loop-node.invariant
    (rw (← c.row_of.ensures) c.in_ok-mark_row.ensures)

pub levels-preserved : goal.levels-preserved
levels-preserved c =
    next_level (nonempty c.levels.frontier c.levels-test.ensures) c.levels.invariant
    (rw (← (take_all c.loop-node.node-index c.deref-node-items.result.now c.loop-node-test.false ∙ c.deref-node-items.ensures.value)) c.loop-node.invariant)

pub returns : goal.returns
returns c =
    rw (← (length_lists c.args.slices.now)) (all_levels (emptied c.levels.frontier c.levels-test.ensures) c.levels.invariant)

pub row_of-requires : goal.row_of-requires
row_of-requires c = in_range (goal.at.row_of-requires c).After-deref-node-items c.loop-node.node-index 0 c.loop-node-test.true

pub overflow_add-count : goal.overflow_add-count
overflow_add-count c = omega (arith, length_lists c.args.slices.now)

pub levels-smaller : goal.levels-smaller
levels-smaller c = omega (arith, nonempty c.levels.frontier c.levels-test.ensures)

pub loop-node-init : goal.loop-node-init
loop-node-init c = grind (arith, common_steps)
