use Rattle.std.proofs.Common.{◌≡◌, ◌++◌, map, take}
use Rattle.module_table.specs.Prelude.{provisions, names_of, indexes_in, looked_up, lookups_of}
use Rattle.module_table.proofs.modules.add_module.Given as goal

abbrev pub invariant-loop-pair : goal.invariant-loop-pair
invariant-loop-pair l = record {
  required : map looked_up l.all.items ≡
      map looked_up l.initial.all.items ++ lookups_of (provisions l.modules) l.info l.target (record l.entry { required = take l.pair-index l.entry.required });
  row : l.row.items ≡ indexes_in (names_of (provisions l.modules)) (take l.pair-index l.entry.required);
}
