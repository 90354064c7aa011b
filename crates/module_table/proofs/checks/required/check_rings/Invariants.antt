use Rattle.std.proofs.Common.{◌≡◌, map, take}
use Rattle.module_table.specs.Prelude.{filter_map, rows, maker_at, provision_of}
use Rattle.module_table.proofs.checks.required.check_rings.Given as goal

abbrev pub invariant-loop-row : goal.invariant-loop-row
invariant-loop-row l = rows l.needs.items ≡ map (filter_map (maker_at (map provision_of l.provided))) (take l.row-index (rows l.required))
