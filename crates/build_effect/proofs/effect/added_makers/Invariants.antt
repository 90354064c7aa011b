use Rattle.std.proofs.Common.{◌≡◌, take}
use Rattle.build_effect.specs.Prelude.{added_files}
use Rattle.build_effect.proofs.effect.added_makers.Given as goal

abbrev pub invariant-loop-index : goal.invariant-loop-index
invariant-loop-index l = l.files ≡ added_files l.edge_of (take l.index l.additions)
