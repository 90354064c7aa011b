use Rattle.std.proofs.Common.{rules, ◌≡◌, ◌∙◌, ◌++◌, ◌∷◌, [], List, append_assoc, get_or, map, refl, ap, subst, ℕ, Vec, Global}
use Rattle.commands.specs.Prelude.{ForFault, line_feed, visible, cycle_error, first_output, order_text, PrintsOrder, refusal, printed}
use Rattle.commands.proofs.Outcomes.{of_all, next, last, said, text_next}
use Rattle.commands.proofs.edges.order_of_read.Goals as goal

pub returns-in_err-graph : goal.returns-in_err-graph
returns-in_err-graph c = last _ c.in_err-graph.ensures c.from_residual.ensures

pub returns-in_err-order : goal.returns-in_err-order
returns-in_err-order c = next _ c.in_ok-graph.ensures (search rules)

pub returns-in_err-push_line-in-Order : goal.returns-in_err-push_line-in-Order
returns-in_err-push_line-in-Order c = next _ c.in_ok-graph.ensures (search rules)

pub returns-after-loop-edge_index : goal.returns-after-loop-edge_index
returns-after-loop-edge_index c =
    let graph = c.in_ok-graph.graph.now in
    let sorting = rw c.in-Order.is at c.in_ok-order.ensures in
    let order = c.deref-edge_index-items.result.now in
    let text = of_all (order_text graph) order c.loop-edge_index.edge_index-index c.loop-edge_index.text.items c.loop-edge_index-test.false
    c.loop-edge_index.invariant
    ∙ ap (order_text graph) c.deref-edge_index-items.ensures.value in
    next _ c.in_ok-graph.ensures (refl, (c.in-Order.order, sorting, c.text.ensures ∙ ap printed text))

pub returns-in-Cycle : goal.returns-in-Cycle
returns-in-Cycle c =
    let graph = c.in_ok-graph.graph.now in
    let sorting = rw c.in-Cycle.is at c.in_ok-order.ensures in
    let stop = c.of_cycle.result in
    next _ c.in_ok-graph.ensures (said (PrintsOrder graph) _ (λ (cycle : Vec ℕ Global). cycle_error graph cycle.items) c.in-Cycle.cycle stop sorting
    (subst (λ cycle. ForFault (λ l. l ≡ refusal (cycle_error graph cycle)) stop) c.deref.ensures.value c.of_cycle.ensures))

-- one edge more
pub loop-edge_index-preserved : goal.loop-edge_index-preserved
loop-edge_index-preserved c =
    let text = c.loop-edge_index.text.items in
    let name_of : ℕ → List ℕ = first_output c.in_ok-graph.graph.now in
    let index : ℕ = get_or c.deref-edge_index-items.result.now c.loop-edge_index.edge_index-index 0 in
    let name = c.first_output.ensures ∙ ap (λ edges. first_output edges index) c.edges.ensures.edges in
    text_next (λ k. map visible (name_of k) ++ line_feed ∷ [])
    [] _ c.loop-edge_index.edge_index-index 0 text _ c.loop-edge_index-test.true c.loop-edge_index.invariant
    (c.in_ok-push_line-in-Order.ensures ∙ ap (λ n. text ++ map visible n ++ line_feed ∷ []) name ∙
    append_assoc text (map visible (name_of index)) (line_feed ∷ []))
