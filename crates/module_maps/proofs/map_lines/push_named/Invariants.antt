use Rattle.std.proofs.Common.{◌≡◌, ◌++◌, take, map}
use Rattle.module_maps.specs.MapLines.{named}
use Rattle.module_maps.proofs.map_lines.push_named.Given as goal

-- the entries so far
abbrev pub invariant-loop-pair : goal.invariant-loop-pair
invariant-loop-pair l = l.entries.items ≡ l.initial.entries.items ++ map (λ pair. named (pair.0.now, pair.1.now)) (take l.pair-index l.pairs)
