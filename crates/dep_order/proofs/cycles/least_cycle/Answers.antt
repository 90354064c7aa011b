use Rattle.std.proofs.Common.{arith, ap, ◌∙◌, length, subst, None, ◌∷◌, refl}
use Rattle.std.proofs.lemmas.Bool.{false≢true}
use Rattle.dep_order.specs.Prelude.{lists, NodeNeeds, needs_of, SharesComponent, IsLeastFromIfAny}
use Rattle.dep_order.proofs.Answered.{first_in_range, least_of_all, none_from, row_nodes}
use Rattle.dep_order.proofs.Releases.{length_lists}
use Rattle.dep_order.proofs.Connected.{shared_from, cycle_from_shared}
use Rattle.dep_order.proofs.cycles.least_cycle.Goals as goal

pub returns-in-Some : goal.returns-in-Some
returns-in-Some c = least_of_all c.first_suspect-suspect.ensures.none_lower
    (subst (IsLeastFromIfAny (NodeNeeds (lists c.args.needs.now)) c.first_suspect-suspect.result) c.in-Some.is c.in_ok-cycle.ensures)

pub unreachable-requires : goal.unreachable-requires
unreachable-requires c =
    let own : SharesComponent (needs_of (lists c.args.needs.now) c.loop-first.first) c.in_ok-components.components.items c.loop-first.first =
    rw (← c.row_of.ensures) (rw (← c.as_slice.ensures.value) (c.shares_component.ensures.0 c.if-shares_component.true)) in
    let cycle = cycle_from_shared c.requires.nodes c.in_ok-components.ensures own in
    let none =
    subst (IsLeastFromIfAny (NodeNeeds (lists c.args.needs.now)) c.loop-first.first) c.in-None.is c.in_ok-cycle-2.ensures in
    absurd (none (c.loop-first.first ∷ cycle.0) cycle.1 refl)

pub returns-then-shares_component : goal.returns-then-shares_component
returns-then-shares_component c =
    least_of_all c.loop-first.invariant
    (subst (IsLeastFromIfAny (NodeNeeds (lists c.args.needs.now)) c.loop-first.first) c.in-Some-2.is c.in_ok-cycle-2.ensures)

pub loop-first-preserved : goal.loop-first-preserved
loop-first-preserved c =
    none_from
    (λ cycle h begins.
    let seen : SharesComponent c.row_of.result.now c.as_slice.result.now c.loop-first.first =
    rw c.row_of.ensures (rw c.as_slice.ensures.value (shared_from cycle c.requires.nodes c.in_ok-components.ensures h begins)) in
    false≢true (c.if-shares_component.ensures.1 seen))
    c.loop-first.invariant

pub shares_component-requires-clause-row : goal.shares_component-requires-clause-row
shares_component-requires-clause-row c =
    rw c.row_of.ensures (row_nodes (lists c.args.needs.now) c.loop-first.first (length c.as_slice.result.now)
    (ap length c.as_slice.ensures.value ∙ c.in_ok-components.ensures.each) (omega (arith, length_lists c.args.needs.now)) c.requires.nodes)

pub shares_component-requires-clause-node : goal.shares_component-requires-clause-node
shares_component-requires-clause-node c =
    omega (arith, ap length c.as_slice.ensures.value, c.in_ok-components.ensures.each, length_lists c.args.needs.now)

pub unreachable-requires-2 : goal.unreachable-requires-2
unreachable-requires-2 c =
    let cycle = c.requires.cycle in
    absurd (omega (
      arith,
      c.loop-first.invariant cycle.0 cycle.1,
      first_in_range (lists c.args.needs.now) cycle.0 c.requires.nodes cycle.1,
      length_lists c.args.needs.now,
    ))
