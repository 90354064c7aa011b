use Rattle.std.proofs.Common.{◌≡◌, ◌<◌, ◌∙◌, ap, sym, subst, arith, length, slice_index}
use Rattle.std.proofs.lemmas.Grind.{common_steps}
use Rattle.std.proofs.lemmas.List.{get_or_default}
use Rattle.dep_order.specs.Prelude.{needs_of, NeedsAreNodes, rows}
use Rattle.dep_order.proofs.Answered.{row_nodes}
use Rattle.dep_order.proofs.Searches.{reach_more, reach_falls, are_reached}
use Rattle.dep_order.proofs.searching.Reaching.from.Goals as goal
use Rattle.dep_order.proofs.searching.Reaching.from.Goals.{After-deref}

-- the row is what the next node needs
row_is : (c : After-deref) → c.deref.result.now ≡ needs_of c.search.self-inside.graph.now (slice_index c.search.found.items c.search.next)
row_is c =
    let lt : c.search.next < length c.search.found.items = omega arith in
    let at = c.index.ensures ∙ get_or_default c.search.found.items c.search.next _ 0 lt in
    let row : c.deref.result.now ≡ needs_of (rows c.graph.inside.needs.items) c.index.result.now =
    grind (arith, common_steps, c.index-row.ensures, c.deref.ensures.value) in
    row ∙ ap (λ g. needs_of g c.index.result.now) (c.graph.view_is ∙ sym c.search.invariant.same) ∙ ap (needs_of c.search.self-inside.graph.now) at

pub find_row-requires-clause-row : goal.find_row-requires-clause-row
find_row-requires-clause-row c =
    let reached = c.search.invariant.reached in
    rw (row_is (goal.at.find_row-requires-clause-row c).After-deref)
    (row_nodes c.search.self-inside.graph.now (slice_index c.search.found.items c.search.next) (length c.search.self-inside.indexes.items) reached.as_many
    (omega (arith, reached.are_found.nodes c.search.next 0 (omega arith)))
    (subst NeedsAreNodes (c.graph.view_is ∙ sym c.search.invariant.same) c.graph.invariant))

pub search-smaller : goal.search-smaller
search-smaller c =
    reach_falls c.search.self-inside.graph.now c.args.node c.search.next c.search.self-inside.indexes.items c.search.found.items c.find_row.new.indexes.items
    c.find_row.new.found.items (omega arith) c.search.invariant.reached
    (rw (← (row_is (goal.at.search-smaller c).After-deref)) c.in_ok-find_row.ensures.found)

pub search-preserved : goal.search-preserved
search-preserved c = record {
  same = c.search.invariant.same;
  reached = reach_more c.search.self-inside.graph.now c.args.node c.search.next c.search.self-inside.indexes.items c.search.found.items
      c.find_row.new.indexes.items c.find_row.new.found.items (omega arith) c.search.invariant.reached
      (rw (← (row_is (goal.at.search-preserved c).After-deref)) c.in_ok-find_row.ensures.found);
}

pub returns-clause-reached : goal.returns-clause-reached
returns-clause-reached c =
    rw (← (c.search.invariant.same ∙ c.self.view_is))
    (are_reached c.search.self-inside.graph.now c.args.node c.search.next c.search.self-inside.indexes.items c.search.found.items c.search.invariant.reached
    (omega arith))

pub search-init : goal.search-init
search-init c = grind (arith, common_steps)

pub index-row-requires : goal.index-row-requires
index-row-requires c = grind (arith, common_steps)

pub find_row-requires-clause-found : goal.find_row-requires-clause-found
find_row-requires-clause-found c = c.search.invariant.reached.are_found

pub overflow_add-next : goal.overflow_add-next
overflow_add-next c = omega arith
