use Rattle.std.proofs.Common.{◌≡◌, ◌++◌, take, map}
use Rattle.module_maps.specs.MapLines.{nameless}
use Rattle.module_maps.proofs.map_lines.push_nameless.Given as goal

-- the entries so far
abbrev pub invariant-loop-pair : goal.invariant-loop-pair
invariant-loop-pair l = l.entries.items ≡ l.initial.entries.items ++ map (λ pair. nameless (pair.0.now, pair.1.now)) (take l.pair-index l.pairs)
