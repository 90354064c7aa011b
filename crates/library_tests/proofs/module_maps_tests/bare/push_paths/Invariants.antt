use Rattle.std.proofs.Common.{◌≡◌, ◌++◌, take}
use Rattle.std.specs.List.{flat_map}
use Rattle.module_maps.specs.MapLines.{ended_line}
use Rattle.library_tests.proofs.module_maps_tests.bare.push_paths.Given as goal

-- the lines so far
abbrev pub invariant-loop-pair : goal.invariant-loop-pair
invariant-loop-pair l = l.text.items ≡ l.initial.text.items ++ flat_map (λ pair. ended_line pair.1.now) (take l.pair-index l.pairs)
