use Rattle.std.proofs.Common.{ℕ}
use Rattle.module_table.specs.Prelude.{Below, Has, InWord, Word}
use Rattle.module_table.proofs.pool.links.Links.module_of.Given as goal

abbrev pub invariant-loop-word : goal.invariant-loop-word
invariant-loop-word l = Below (λ (w : Word). (k : ℕ) → InWord w k → Has l.self.linked.now k → ⊥) l.word-items l.word-index
