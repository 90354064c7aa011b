use Rattle.std.proofs.Common.{◌≡◌, ◌<◌, ◌≤◌, ℕ, Vec, Global, get_or, length}
use Rattle.module_table.specs.Prelude.{HasEachOnce}
use Rattle.module_table.proofs.checks.without_repetitions.Given as goal

abbrev pub invariant-loop-row : goal.invariant-loop-row
invariant-loop-row l = record {
  as_many : length l.row-items ≡ length l.initial.row-items;
  done : (k : ℕ) (d : Vec ℕ Global) → k < l.row-index → HasEachOnce (get_or l.initial.row-items k d).items (get_or l.row-items k d).items;
  rest : (k : ℕ) (d : Vec ℕ Global) → l.row-index ≤ k → get_or l.row-items k d ≡ get_or l.initial.row-items k d;
}
