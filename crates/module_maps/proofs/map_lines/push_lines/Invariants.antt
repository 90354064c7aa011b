use Rattle.std.proofs.Common.{◌≡◌, ◌++◌, ◌∷◌, take}
use Rattle.module_maps.specs.Prelude.{flat_map, ended_line}
use Rattle.module_maps.proofs.map_lines.push_lines.Given as goal

-- the lines so far
abbrev pub invariant-loop-pair : goal.invariant-loop-pair
invariant-loop-pair l = l.text.items ≡
    l.initial.text.items ++ flat_map (λ pair. ended_line (l.prefix ++ pair.0.now ++ l.mark ∷ pair.1.now)) (take l.pair-index l.pairs)
