use Rattle.std.proofs.Common.{◌<◌, ℕ}
use Rattle.module_table.proofs.pool.links.put_links.Given as goal
use Rattle.module_table.proofs.Words.{At}

abbrev pub invariant-loop-index-2 : goal.invariant-loop-index-2
invariant-loop-index-2 l = (k n : ℕ) → k < l.index → At l.linked k n → At l.indexes.items n k
