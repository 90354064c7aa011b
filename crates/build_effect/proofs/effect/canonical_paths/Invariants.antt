use Rattle.std.proofs.Common.{take}
use Rattle.build_effect.specs.Prelude.{ArePaths}
use Rattle.build_effect.proofs.effect.canonical_paths.Given as goal

abbrev pub invariant-loop-path : goal.invariant-loop-path
invariant-loop-path l = ArePaths (take l.path l.strings) l.paths.items
