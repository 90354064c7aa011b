use Rattle.std.proofs.Common.{[], ◌∷◌, ◌++◌, take}
use Rattle.module_table.specs.Prelude.{flat_map, TableEntries, HasAdded, object_entries}
use Rattle.module_table.proofs.table.add_objects.Given as goal

abbrev pub invariant-loop-rule : goal.invariant-loop-rule
invariant-loop-rule l = (entries : TableEntries) → HasAdded l.fn.digest entries →
    HasAdded l.digest (entries ++ flat_map object_entries (take l.rule-index l.objects))

abbrev pub invariant-loop-pair : goal.invariant-loop-pair
invariant-loop-pair l = (entries : TableEntries) → HasAdded l.initial.digest entries →
    HasAdded l.digest (entries ++ flat_map (λ pair. pair.0 ∷ pair.1 ∷ []) (take l.pair-index l.pair-items))
