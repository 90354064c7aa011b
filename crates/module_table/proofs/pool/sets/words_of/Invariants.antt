use Rattle.std.proofs.Common.{ℕ, ◌<◌, ◌/◌}
use Rattle.module_table.specs.Prelude.{HasBit, InWords}
use Rattle.module_table.proofs.pool.sets.words_of.Given as goal

abbrev pub invariant-loop-index : goal.invariant-loop-index
invariant-loop-index l = (k : ℕ) → k / 64 < l.index → HasBit l.set k → InWords l.words.items k
