use Rattle.std.proofs.Common.{◌≡◌, length, take}
use Rattle.module_table.specs.Prelude.{filter_map, rows, origin_of, object_row}
use Rattle.module_table.proofs.modules.object_rows.Given as goal

abbrev pub invariant-loop-module : goal.invariant-loop-module
invariant-loop-module l = rows l.needs.items ≡ filter_map (λ m. object_row (length l.provided) (origin_of m)) (take l.module-index l.provided)
