use Rattle.std.proofs.Common.{take}
use Rattle.module_maps.specs.Prelude.{All, IsModulePair}
use Rattle.module_maps.proofs.Pushes.{seen}
use Rattle.module_maps.proofs.module_map.bytes_in.Given as goal

-- those so far are of names and paths
abbrev pub invariant-loop-pair : goal.invariant-loop-pair
invariant-loop-pair l = All (λ pair. IsModulePair (seen pair)) (take l.pair-index l.pairs)
