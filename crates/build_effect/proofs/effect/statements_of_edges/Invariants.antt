use Rattle.std.proofs.Common.{take}
use Rattle.build_effect.specs.Prelude.{AllDiffer, AreInverse}
use Rattle.build_effect.proofs.effect.statements_of_edges.Given as goal

abbrev pub invariant-loop-statement_index : goal.invariant-loop-statement_index
invariant-loop-statement_index l =
    record { inverse : AreInverse l.count (take l.statement_index l.edge_of) l.statement_of.items; differ : AllDiffer (take l.statement_index l.edge_of) }
