use Rattle.std.proofs.Common.{◌≡◌, ◌++◌, map, take, ℕ}
use Rattle.module_table.specs.Prelude.{flat_map, enumerate_from, InfoValue, provisions, rows, names_of, info_rows, indexes_in, looked_up, lookups_of}
use Rattle.module_table.proofs.modules.all_required.Given as goal

abbrev pub invariant-loop-info : goal.invariant-loop-info
invariant-loop-info l = record {
  required : map looked_up l.all.items ≡
      flat_map (λ (info : ℕ × InfoValue). flat_map (lookups_of (provisions l.modules) info.0 info.1.target) info.1.modules)
      (enumerate_from 0 (take l.info l.infos));
  needs : rows l.needs.items ≡ rows l.initial.needs.items ++ flat_map (info_rows (names_of (provisions l.modules))) (enumerate_from 0 (take l.info l.infos));
}

abbrev pub invariant-loop-entry : goal.invariant-loop-entry
invariant-loop-entry l = record {
  required : map looked_up l.all.items ≡
      map looked_up l.initial.all.items ++ flat_map (lookups_of (provisions l.modules) l.info l.value-inside.target) (take l.entry-index l.entry-items);
  needs : rows l.needs.items ≡
      rows l.initial.needs.items ++ map (λ entry. indexes_in (names_of (provisions l.modules)) entry.required) (take l.entry-index l.entry-items);
}
