use Rattle.std.proofs.Common.{arith, ◌≡◌, ◌<◌, ◌-◌, ℕ, sym, ◌∙◌, subst, length, Some}
use Rattle.std.proofs.lemmas.List.Elements.{All-contains}
use Rattle.dep_order.specs.Prelude.{AreUsers, lists, NodeNeeds, needs_of, AreSteps, LeadsBack, IsFewest, IsLeastAt}
use Rattle.dep_order.proofs.Releases.{length_lists}
use Rattle.dep_order.proofs.Answered.{row_nodes, users_are_nodes, steps_back, no_way_back}
use Rattle.dep_order.proofs.Greedy.{IsChosen, first_chosen, next_chosen, all_chosen}
use Rattle.dep_order.proofs.Words.{Marks, Slices}
use Rattle.dep_order.proofs.cycles.cycle_through.Goals as goal

-- the distances along users, as steps that lead back along needs
steps_for : {first : ℕ} {steps distances : Marks} (needs users : Slices) → AreUsers (lists needs) (lists users) → steps ≡ distances →
    AreSteps (length users) (NodeNeeds (lists users)) first distances → AreSteps (length (lists needs)) (LeadsBack (NodeNeeds (lists needs))) first steps
steps_for needs users u same found =
    rw (← (sym (length_lists users) ∙ u.each)) (steps_back u (rw same found))

pub steps_from-requires-clause-nodes : goal.steps_from-requires-clause-nodes
steps_from-requires-clause-nodes c = users_are_nodes c.requires.users c.requires.nodes

pub returns-in_default : goal.returns-in_default
returns-in_default c =
    let steps = c.as_slice-steps.result.now in
    let s = steps_for c.args.needs.now c.args.users.now c.requires.users c.as_slice-steps.ensures.value c.in_ok-distances.ensures in
    no_way_back (lists c.args.needs.now) s (rw (← c.row_of.ensures) c.in_default.ensures)

pub loop-chosen-init : goal.loop-chosen-init
loop-chosen-init c =
    let some : IsFewest (needs_of (lists c.args.needs.now) c.args.first) c.as_slice-steps.result.now (Some c.in-Some.count) =
    rw (← c.row_of.ensures) c.in-Some.ensures in
    record {
      fewest = some;
      chosen = first_chosen c.in_ok-cycle.ensures.items
          (omega (arith, length_lists c.args.needs.now)) some;
    }

pub least_at-node-requires-clause-nodes : goal.least_at-node-requires-clause-nodes
least_at-node-requires-clause-nodes c =
    let graph = lists c.args.needs.now in
    let steps = c.as_slice-steps.result.now in
    let s = steps_for c.args.needs.now c.args.users.now c.requires.users c.as_slice-steps.ensures.value c.in_ok-distances.ensures in
    rw c.row_of-in-loop-chosen.ensures (row_nodes graph c.loop-chosen.node (length steps) s.as_many c.loop-chosen.invariant.chosen.node_in c.requires.nodes)

pub loop-chosen-preserved : goal.loop-chosen-preserved
loop-chosen-preserved c =
    let graph = lists c.args.needs.now in
    let next = c.least_at-node.result in
    let s = steps_for c.args.needs.now c.args.users.now c.requires.users c.as_slice-steps.ensures.value c.in_ok-distances.ensures in
    let at : IsLeastAt (needs_of graph c.loop-chosen.node) c.as_slice-steps.result.now (c.in-Some.count - c.loop-chosen.chosen) next =
    rw (← c.row_of-in-loop-chosen.ensures) c.least_at-node.ensures in
    let in' =
    All-contains (λ needed. needed < length graph) (needs_of graph c.loop-chosen.node) next
    (row_nodes graph c.loop-chosen.node (length graph) (omega arith) c.loop-chosen.invariant.chosen.node_in c.requires.nodes) at.in_row in
    record {
      fewest = c.loop-chosen.invariant.fewest;
      chosen = rw c.in_ok-push.ensures.items (next_chosen s in' c.loop-chosen-test.true at c.loop-chosen.invariant.chosen);
    }

pub returns : goal.returns
returns c =
    let graph = lists c.args.needs.now in
    let steps = c.as_slice-steps.result.now in
    let s = steps_for c.args.needs.now c.args.users.now c.requires.users c.as_slice-steps.ensures.value c.in_ok-distances.ensures in
    let end : c.loop-chosen.chosen ≡ c.in-Some.count = omega arith in
    all_chosen s c.loop-chosen.invariant.fewest
    (subst (λ n. IsChosen graph c.args.first c.in-Some.count steps c.loop-chosen.cycle.items c.loop-chosen.node n) end c.loop-chosen.invariant.chosen)

pub overflow_sub-count : goal.overflow_sub-count
overflow_sub-count c = omega arith

pub least_at-node-requires-clause-some : goal.least_at-node-requires-clause-some
least_at-node-requires-clause-some c = rw c.row_of-in-loop-chosen.ensures c.loop-chosen.invariant.chosen.ahead.0

pub row_of-requires-in-loop-chosen : goal.row_of-requires-in-loop-chosen
row_of-requires-in-loop-chosen c = omega (arith, length_lists c.args.needs.now)

pub fewest-requires : goal.fewest-requires
fewest-requires c =
    let s = steps_for c.args.needs.now c.args.users.now c.requires.users c.as_slice-steps.ensures.value c.in_ok-distances.ensures in
    rw c.row_of.ensures (row_nodes (lists c.args.needs.now) c.args.first (length c.as_slice-steps.result.now) s.as_many
    (omega (arith, length_lists c.args.needs.now)) c.requires.nodes)
