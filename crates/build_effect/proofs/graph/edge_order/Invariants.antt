use Rattle.std.proofs.Common.{◌≡◌, map, take}
use Rattle.build_effect.specs.Prelude.{filter_map, rows, inputs_of, maker_in}
use Rattle.build_effect.proofs.graph.edge_order.Given as goal

abbrev pub invariant-loop-edge : goal.invariant-loop-edge
invariant-loop-edge l = rows l.needs.items ≡ map (λ edge. filter_map (maker_in l.makers) (inputs_of edge)) (take l.edge-index l.edges)
