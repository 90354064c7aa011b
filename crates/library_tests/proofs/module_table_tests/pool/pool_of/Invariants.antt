use Rattle.std.proofs.Common.{All}
use Rattle.std.specs.Vec.Iter.{into_iter_items}
use Rattle.table_keys.specs.Keys.{Covers}
use Rattle.module_table.specs.Pool.{pool_entries}
use Rattle.library_tests.proofs.module_table_tests.pool.pool_of.Given as goal

-- the key covers the info files that are left
abbrev pub invariant-loop : goal.invariant-loop
invariant-loop l = All (λ info. Covers l.pool.key (pool_entries info)) (into_iter_items l.rest)
