use Rattle.std.proofs.Common.{ℕ, subst, sym}
use Rattle.ninja_text.specs.Failure.{ForFault}
use Rattle.dep_order.specs.Needs.{IsOrderable}
use Rattle.dep_order.specs.Sortings.{IsSortingOf}
use Rattle.dep_order.specs.declared.Sorting.{Sorting}
use Rattle.dep_order.specs.declared.Sorting.TheVariants.{Order, Cycle}
use Rattle.build_effect.specs.Effect.{Effect}
use Rattle.collate_core.specs.Rehearsal.{HasEffect, IsOrder, IsRehearseFault}
use Rattle.collate_core.specs.ProjectOrders.{dyndep_file}
use Rattle.collate_core.proofs.Effects.{are_canonical}
use Rattle.collate_core.proofs.rehearsal.check_edges.Goals as goal

-- of needs that are orderable a sorting is an order
ordered : {count : ℕ} {Needs : ℕ → ℕ → Type 0} → IsOrderable count Needs → (sorting : Sorting) → IsSortingOf count Needs sorting → IsOrder sorting
ordered {count} {Needs} orderable (Order order) h = tt
ordered {count} {Needs} orderable (Cycle cycle) h = absurd (h.0 orderable)

-- said here, so that the order of another graph is rejected soon
pub returns-clause-sorted : goal.returns-clause-sorted
returns-clause-sorted c = (c.in-Ok.new, rw (← c.dyndep.ensures.bytes) c.in-Ok.ensures.effect, c.in_ok-edge_order.ensures)

pub returns-clause-ordered : goal.returns-clause-ordered
returns-clause-ordered c = λ statements text meets level.
    let old = c.args.graph.now in
    let new = c.in-Ok.new in
    let found : HasEffect c.args.collated.now.dyndep c.args.name.now old new = rw (← c.dyndep.ensures.bytes) c.in-Ok.ensures.effect in
    let here = found.1.stands in
    let same = text.dyndep.only found.0 here in
    let effect = subst (λ xs. Effect old c.args.name.now xs new) same found.2.effect in
    let gives =
    c.statements_have_one_effect.ensures.gives old new c.args.name.now statements statements (are_canonical text.canonical) effect in
    let orderable =
    c.the_graph_after_a_file_can_be_ordered.ensures (dyndep_file c.args.name.now statements) old level.outputs new level.ranks meets gives
    level.has_outputs level.level text.orderable in
    ordered orderable c.in_ok-edge_order.field-0 c.in_ok-edge_order.ensures

pub unreachable-requires : goal.unreachable-requires
unreachable-requires c =
    let text = c.dyndep.result.now in
    let fault = subst (ForFault (IsRehearseFault text c.args.name.now c.args.graph.now)) c.in-Err-Fault.field-0-is c.in-Err-Fault.ensures.fault in
    let unread = subst (IsRehearseFault text c.args.name.now c.args.graph.now) c.in-Read.is
    (subst (IsRehearseFault text c.args.name.now c.args.graph.now) (sym c.in-Err-Fault.fault-is) fault) in
    let statements = c.dyndep.ensures.statements in
    unread.1 statements.0 (rw c.dyndep.ensures.bytes statements.1.dyndep.stands)
