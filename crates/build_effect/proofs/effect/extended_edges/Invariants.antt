use Rattle.std.proofs.Common.{take}
use Rattle.build_effect.specs.Prelude.{AreExtended}
use Rattle.build_effect.proofs.effect.extended_edges.Given as goal

abbrev pub invariant-loop-edge_index : goal.invariant-loop-edge_index
invariant-loop-edge_index l = AreExtended (take l.edge_index l.edges) l.additions l.statement_of l.new.items
