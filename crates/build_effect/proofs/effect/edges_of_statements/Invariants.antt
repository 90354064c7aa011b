use Rattle.std.proofs.Common.{take}
use Rattle.build_effect.specs.Prelude.{AreEdgesOf}
use Rattle.build_effect.proofs.effect.edges_of_statements.Given as goal

abbrev pub invariant-loop-addition : goal.invariant-loop-addition
invariant-loop-addition l = AreEdgesOf l.edges l.name (take l.addition-index l.additions) l.edge_of.items
