use Rattle.std.proofs.Common.{take}
use Rattle.module_table.specs.Prelude.{provisions, info_requirements, IsByInfo, AcceptsAll}
use Rattle.module_table.proofs.checks.required.check_infos_known.Given as goal

abbrev pub invariant-loop-required : goal.invariant-loop-required
invariant-loop-required l = AcceptsAll (IsByInfo (provisions l.modules)) (take l.required-index (info_requirements l.modules))
