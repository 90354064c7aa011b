use Rattle.std.proofs.Common.{◌≡◌, map, take}
use Rattle.indexmap.specs.IndexSet.{hasher_of}
use Rattle.module_table.specs.Prelude.{AllDiffer, provision_of, names_of}
use Rattle.module_table.proofs.checks.put_names.Given as goal

abbrev pub invariant-loop-module : goal.invariant-loop-module
invariant-loop-module l =
    record {
      same : l.names.keys ≡ take l.module-index (names_of (map provision_of l.provided));
      differ : AllDiffer (take l.module-index (names_of (map provision_of l.provided)));
      hasher : hasher_of l.names ≡ hasher_of l.fn.names;
    }
