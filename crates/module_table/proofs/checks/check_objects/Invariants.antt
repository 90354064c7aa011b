use Rattle.std.proofs.Common.{◌≡◌, map, take}
use Rattle.indexmap.specs.IndexSet.{hasher_of}
use Rattle.module_table.specs.Prelude.{AllDiffer}
use Rattle.module_table.proofs.checks.check_objects.Given as goal

abbrev pub invariant-loop-index : goal.invariant-loop-index
invariant-loop-index l =
    record {
      same : l.paths.keys ≡ take l.index (map (λ rule. rule.object) l.objects);
      differ : AllDiffer (take l.index (map (λ rule. rule.object) l.objects));
      hasher : hasher_of l.paths ≡ hasher_of l.fn.paths;
    }
