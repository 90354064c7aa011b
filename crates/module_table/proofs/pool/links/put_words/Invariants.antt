use Rattle.std.proofs.Common.{◌≡◌, ℕ, slice_get, Some, get_or}
use Rattle.module_table.specs.Prelude.{Below, HasBit}
use Rattle.module_table.proofs.pool.links.put_words.Given as goal

abbrev pub invariant-loop-info : goal.invariant-loop-info
invariant-loop-info l = record {
  only : (k : ℕ) → HasBit l.words.items k → slice_get l.linked (get_or l.indexes k 0) ≡ Some k;
  all : Below (λ k. HasBit l.words.items k) l.linked l.info-index;
}
