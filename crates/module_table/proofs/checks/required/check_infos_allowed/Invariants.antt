use Rattle.std.proofs.Common.{take}
use Rattle.module_table.specs.Prelude.{provisions, info_requirements, IsAllowed, AcceptsAll}
use Rattle.module_table.proofs.checks.required.check_infos_allowed.Given as goal

abbrev pub invariant-loop-required : goal.invariant-loop-required
invariant-loop-required l = AcceptsAll (IsAllowed (provisions l.modules)) (take l.required-index (info_requirements l.modules))
