use Rattle.std.proofs.Common.{◌≡◌, take}
use Rattle.build_effect.specs.Prelude.{made_by, numbered}
use Rattle.build_effect.proofs.graph.makers_of.Given as goal

abbrev pub invariant-loop-index : goal.invariant-loop-index
invariant-loop-index l = l.files ≡ numbered made_by (λ index. index) (take l.index l.edges)
