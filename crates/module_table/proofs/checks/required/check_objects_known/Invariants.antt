use Rattle.std.proofs.Common.{◌≡◌, map, take, slice_get, Some}
use Rattle.module_table.specs.Prelude.{provisions, names_of}
use Rattle.module_table.proofs.checks.required.check_objects_known.Given as goal

abbrev pub invariant-loop-object : goal.invariant-loop-object
invariant-loop-object l = map (λ row. map (slice_get (names_of (provisions l.modules))) row.items) l.indexes.items ≡
    map (λ rule. map Some rule.required) (take l.object l.objects)

abbrev pub invariant-loop-required : goal.invariant-loop-required
invariant-loop-required l = map (slice_get (names_of (provisions l.modules))) l.row.items ≡ map Some (take l.required-index l.required-items)
