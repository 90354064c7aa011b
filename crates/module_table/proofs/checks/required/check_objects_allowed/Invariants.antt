use Rattle.std.proofs.Common.{take}
use Rattle.module_table.specs.Prelude.{provisions, AcceptsAll, RequiresPublic}
use Rattle.module_table.proofs.Found.{IsPublicAt}
use Rattle.module_table.proofs.checks.required.check_objects_allowed.Given as goal

abbrev pub invariant-loop-object : goal.invariant-loop-object
invariant-loop-object l = AcceptsAll (RequiresPublic (provisions l.modules)) (take l.object l.modules.objects)

abbrev pub invariant-loop-index : goal.invariant-loop-index
invariant-loop-index l = AcceptsAll (IsPublicAt (provisions l.modules)) (take l.index-index l.index-items)
