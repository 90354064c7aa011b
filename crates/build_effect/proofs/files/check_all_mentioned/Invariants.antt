use Rattle.std.proofs.Common.{◌≡◌, ℕ, ◌<◌, Some, slice_get}
use Rattle.build_effect.specs.Prelude.{EdgeValue, NamesListed, statement_on}
use Rattle.build_effect.proofs.files.check_all_mentioned.Given as goal

abbrev pub invariant-loop-edge_index : goal.invariant-loop-edge_index
invariant-loop-edge_index l = (i : ℕ) (e : EdgeValue) → i < l.edge_index → slice_get l.edges i ≡ Some e → NamesListed l.names e →
    (k : ℕ) × (statement_on l.statement_of i ≡ Some k)
