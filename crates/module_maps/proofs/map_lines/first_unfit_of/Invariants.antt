use Rattle.std.proofs.Common.{◌≡◌, drop}
use Rattle.module_maps.specs.Prelude.{first_unfit, lent_pairs}
use Rattle.module_maps.proofs.map_lines.first_unfit_of.Given as goal

abbrev pub invariant-loop-pair : goal.invariant-loop-pair
invariant-loop-pair l = first_unfit (lent_pairs l.pairs) ≡ first_unfit (lent_pairs (drop l.pair-index l.pairs))
