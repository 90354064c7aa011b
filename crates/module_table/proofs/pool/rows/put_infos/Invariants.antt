use Rattle.std.proofs.Common.{ℕ}
use Rattle.module_table.specs.Prelude.{Below, HasBit, InWord, Word}
use Rattle.module_table.proofs.pool.rows.put_infos.Given as goal

abbrev pub invariant-loop-word : goal.invariant-loop-word
invariant-loop-word l = record {
  still : (k : ℕ) → HasBit l.initial.set.items k → HasBit l.set.items k;
  all : Below (λ (w : Word). (k : ℕ) → InWord w k → HasBit l.set.items k) l.word-items l.word-index;
}
