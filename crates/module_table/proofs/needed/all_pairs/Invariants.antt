use Rattle.std.proofs.Common.{◌≡◌, ◌≤◌, ◌<◌, ◌+◌, ℕ, get_or, length, map, take}
use Rattle.module_table.specs.Prelude.{All, provisions, required_of, ArePairsSoFar}
use Rattle.module_table.proofs.needed.all_pairs.Given as goal

abbrev pub invariant-loop-object : goal.invariant-loop-object
invariant-loop-object l = record {
  as_many : length l.marks.items ≡ length (provisions l.modules);
  at_most : All (λ m. m ≤ l.object) l.marks.items;
  found : map (λ row. row.items) l.all.items ≡ map (required_of l.modules) (take l.object l.modules.objects);
}

abbrev pub invariant-loop-index : goal.invariant-loop-index
invariant-loop-index l = record {
  as_many : length l.marks.items ≡ length (provisions l.modules);
  within : (k : ℕ) → k < length l.index-items → get_or l.index-items k 0 < length (provisions l.modules);
  so_far : ArePairsSoFar (provisions l.modules) (l.object + 1) l.marks.items (take l.index-index l.index-items) l.pairs.items;
}
