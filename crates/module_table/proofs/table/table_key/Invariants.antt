use Rattle.std.proofs.Common.{[], ◌∷◌, ◌++◌, take}
use Rattle.module_table.specs.Prelude.{flat_map, HasAdded, object_entries, info_entries, TableEntries}
use Rattle.module_table.proofs.table.table_key.Given as goal

abbrev pub invariant-loop-info : goal.invariant-loop-info
invariant-loop-info l = HasAdded l.digest (flat_map object_entries l.objects ++ flat_map info_entries (take l.info-index l.infos))

abbrev pub invariant-loop-module : goal.invariant-loop-module
invariant-loop-module l = (entries : TableEntries) → HasAdded l.initial.digest entries →
    HasAdded l.digest (entries ++ flat_map (λ m. m.name ∷ m.file ∷ []) (take l.module-index l.module-items))
