use Rattle.std.proofs.Common.{◌≡◌, ◌++◌, drop}
use Rattle.build_effect.specs.Prelude.{flat_map, spaced}
use Rattle.build_effect.proofs.graph.push_spaced.Given as goal

-- the paths so far follow what was there, and those to come complete them
abbrev pub invariant-loop-path : goal.invariant-loop-path
invariant-loop-path l = l.text.items ++ flat_map spaced (drop l.path-index l.paths) ≡ l.fn.text.items ++ flat_map spaced l.paths
