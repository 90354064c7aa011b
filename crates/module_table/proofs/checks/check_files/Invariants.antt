use Rattle.std.proofs.Common.{◌≡◌, ◌+◌, ◌++◌, length, map, take}
use Rattle.indexmap.specs.IndexSet.{hasher_of}
use Rattle.module_table.specs.Prelude.{AllDiffer, provision_of, files_of}
use Rattle.module_table.proofs.checks.check_files.Given as goal

abbrev pub invariant-loop-module : goal.invariant-loop-module
invariant-loop-module l = record {
  same : l.files.keys ≡ take (length l.fn.files.keys + l.module-index) (l.fn.files.keys ++ files_of (map provision_of l.provided));
  differ : AllDiffer (take (length l.fn.files.keys + l.module-index) (l.fn.files.keys ++ files_of (map provision_of l.provided)));
  hasher : hasher_of l.files ≡ hasher_of l.fn.files;
}
