use Rattle.std.proofs.Common.{rules, tests, ◌≡◌, ◌∙◌, Vec, ℕ, IfOk, length, map, ap, refl, sym, subst, append_assoc}
use Rattle.std.proofs.lemmas.List.{take_all}
use Rattle.std.proofs.lemmas.Option.{slice_get_read}
use Rattle.std.proofs.lemmas.Result.{IfOk-weaker}
use Rattle.std.proofs.lemmas.Iterator.{items_from_collect, YieldsList-from_slice}
use Rattle.std.proofs.lemmas.Iterator.Consumers.{YieldsList-at, YieldsList-from_chain, YieldsList-from_filter_map}
use Rattle.build_effect.specs.Prelude.{filter_map, Global, NodeNeeds, NeedsAreNodes, IsSortingOf, EdgeValue, EdgeNeeds, maker_in, makers_row}
use Rattle.build_effect.proofs.MakerTables.{are_makers, are_nodes, mapped_next, sorting_of}
use Rattle.build_effect.proofs.graph.edge_order.Goals as goal

pub loop-edge-preserved : goal.loop-edge-preserved
loop-edge-preserved c =
    let edges = c.edges-edges.result.now in
    let i = c.loop-edge.edge-index in
    let edge = c.edge-item.result in
    let maker = maker_in c.makers-makers.result.now in
    let at = slice_get_read edges _ i edge refl c.loop-edge-test.true c.edge-item.is in
    let inputs = c.iter.ensures.rest ∙ c.deref.ensures.value ∙ ap (λ (x : EdgeValue). x.inputs) c.edge.view_is in
    let implicit_inputs = c.iter-in-loop-edge.ensures.rest ∙ c.deref-in-loop-edge.ensures.value ∙ ap (λ (x : EdgeValue). x.implicit_inputs) c.edge.view_is in
    let order_only = c.iter-in-loop-edge-2.ensures.rest ∙ c.deref-in-loop-edge-2.ensures.value ∙ ap (λ (x : EdgeValue). x.order_only) c.edge.view_is in
    let made =
    subst (λ files. IfOk c.collect.result (λ row. row.items ≡ filter_map maker files)) (append_assoc edge.inputs edge.implicit_inputs edge.order_only)
    (items_from_collect _ c.collect.ensures.ran (YieldsList-from_filter_map _ maker
    (YieldsList-at c.filter_map-row.ensures.source (YieldsList-from_chain
    (YieldsList-at c.chain-inputs.ensures.first (YieldsList-from_chain
    (YieldsList-at c.chain-named.ensures.first (YieldsList-from_slice edge.inputs inputs))
    (YieldsList-at c.chain-named.ensures.second (YieldsList-from_slice edge.implicit_inputs implicit_inputs)) c.chain-named.ensures.first_done
    c.chain-named.ensures.second_done))
    (YieldsList-at c.chain-inputs.ensures.second (YieldsList-from_slice edge.order_only order_only)) c.chain-inputs.ensures.first_done
    c.chain-inputs.ensures.second_done))
    c.filter_map-row.ensures.closure (λ x r q k. search (rules, tests)))) in
    let row = subst (λ r. IfOk r (λ row. row.items ≡ makers_row maker edge)) c.in_ok-collect.was made in
    mapped_next (λ (row : Vec ℕ Global). row.items) (makers_row maker) edges i c.loop-edge.needs.items c.push.new.self.items at
    c.loop-edge.invariant c.in_ok-push.ensures.items row

pub new-digraph-requires : goal.new-digraph-requires
new-digraph-requires c =
    let g = c.args.graph.now in
    let maker = maker_in c.makers-makers.result.now in
    let are = are_makers c.makers-makers.ensures in
    let needs = c.loop-edge.invariant ∙
    ap (map (makers_row maker)) (take_all c.loop-edge.edge-index c.edges-edges.result.now c.loop-edge-test.false ∙ c.edges-edges.ensures.edges) in
    subst NeedsAreNodes (sym needs) (are_nodes g maker c.edges-edges.ensures.graph.made_once are)

pub returns : goal.returns
returns c =
    let g = c.args.graph.now in
    let maker = maker_in c.makers-makers.result.now in
    let are = are_makers c.makers-makers.ensures in
    let needs = c.loop-edge.invariant ∙
    ap (map (makers_row maker)) (take_all c.loop-edge.edge-index c.edges-edges.result.now c.loop-edge-test.false ∙ c.edges-edges.ensures.edges) in
    let digraph = c.new-digraph.result in
    IfOk-weaker c.order.result (IsSortingOf (length digraph) (NodeNeeds digraph)) (IsSortingOf (length g) (EdgeNeeds g))
    (λ sorting sorted. sorting_of g maker c.edges-edges.ensures.graph.made_once are sorting (c.new-digraph.ensures ∙ needs) sorted) c.order.ensures
