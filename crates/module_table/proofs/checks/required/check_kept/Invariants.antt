use Rattle.std.proofs.Common.{take}
use Rattle.module_table.specs.Prelude.{provisions, IsByObject, AcceptsAll}
use Rattle.module_table.proofs.checks.required.check_kept.Given as goal

abbrev pub invariant-loop-name : goal.invariant-loop-name
invariant-loop-name l = AcceptsAll (IsByObject (provisions l.modules)) (take l.name-index l.kept)
