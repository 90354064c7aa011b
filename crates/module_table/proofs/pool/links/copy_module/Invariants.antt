use Rattle.std.proofs.Common.{◌≡◌, take}
use Rattle.module_table.proofs.pool.links.copy_module.Given as goal

abbrev pub invariant-loop-pair : goal.invariant-loop-pair
invariant-loop-pair l = l.required.items ≡ take l.pair-index l.pair-items
