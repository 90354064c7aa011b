use Rattle.std.proofs.Common.{ℕ}
use Rattle.document_values.specs.Info.{ModuleValue}
use Rattle.module_table.specs.inner.Pools.{Has, HasBit, Below}
use Rattle.module_table.proofs.PoolLemmas.{IsSourced}
use Rattle.module_table.proofs.pool.rows.Related.of.Given as goal
use Rattle.module_table.proofs.Words.{Pair}

abbrev pub invariant-loop-module : goal.invariant-loop-module
invariant-loop-module l =
    Below (λ (m : ModuleValue). (pair : Pair) → Has m.required pair → IsSourced l.infos l.info l.sources.items pair) l.info.modules l.module-index

abbrev pub invariant-loop-pair : goal.invariant-loop-pair
invariant-loop-pair l = record {
  still : (k : ℕ) → HasBit l.initial.sources.items k → HasBit l.sources.items k;
  all : Below (IsSourced l.infos l.info l.sources.items) l.pair-items
      l.pair-index;
}
