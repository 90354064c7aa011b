use Rattle.std.proofs.Common.{[], ◌∷◌, ◌++◌, take}
use Rattle.std.specs.List.{flat_map}
use Rattle.table_keys.specs.Entries.{TableEntries}
use Rattle.table_keys.specs.Keys.{HasAdded}
use Rattle.library_tests.proofs.module_table_tests.part.add_modules.Given as goal

abbrev pub invariant-loop-module : goal.invariant-loop-module
invariant-loop-module l = (entries : TableEntries) → HasAdded l.fn.digest entries →
    HasAdded l.digest (entries ++ flat_map (λ m. m.name ∷ m.file ∷ []) (take l.module-index l.module-items))
