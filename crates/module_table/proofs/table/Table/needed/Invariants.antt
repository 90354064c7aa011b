use Rattle.std.proofs.Common.{◌≡◌, take, map}
use Rattle.module_table.specs.Prelude.{lent}
use Rattle.module_table.proofs.table.Table.needed.Given as goal

abbrev pub invariant-loop-pair : goal.invariant-loop-pair
invariant-loop-pair l = l.copies.items ≡ map lent (take l.pair-index l.pair-items)
