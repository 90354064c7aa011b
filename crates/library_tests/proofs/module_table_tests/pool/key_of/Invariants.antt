use Rattle.std.proofs.Common.{take}
use Rattle.std.specs.List.{flat_map}
use Rattle.table_keys.specs.Keys.{HasAdded}
use Rattle.module_table.specs.Pool.{pool_entries}
use Rattle.library_tests.proofs.module_table_tests.pool.key_of.Given as goal

abbrev pub invariant-loop-info : goal.invariant-loop-info
invariant-loop-info l = HasAdded l.digest (flat_map pool_entries (take l.info-index l.infos))
