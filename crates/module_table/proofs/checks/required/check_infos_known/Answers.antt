use Rattle.std.proofs.Common.{List}
use Rattle.module_table.specs.Prelude.{Name, provisions, info_requirements, IsByInfo, IsNotByInfo, requirement_of, Reports}
use Rattle.module_table.proofs.Lists.{read_at, accepts_next}
use Rattle.module_table.proofs.Found.{object_not_info, for_boxed}
use Rattle.module_table.proofs.Places.{required_there}
use Rattle.module_table.proofs.Passing.{reports_info_unknown, no_module, module_there}
use Rattle.module_table.proofs.checks.required.check_infos_known.Goals as goal
use Rattle.module_table.proofs.checks.required.check_infos_known.Goals.{in-Some+in_default-maker, in_default}

pub loop-required-preserved : goal.loop-required-preserved
loop-required-preserved c =
    let t = c.args.modules.now in
    let i = c.loop-required.required-index in
    let at = read_at c.args.all.now i c.loop-required-test.true c.required-item.is in
    let found = module_there t c.requires i at c.in-Some.is in
    accepts_next (IsByInfo (provisions t)) (info_requirements t) i (required_there t c.requires i at) c.loop-required.invariant
    (found.0, _, c.in-Info.field-0, found.1, c.in-Info.is)

pub returns-in-loop-required-clause-fault : goal.returns-in-loop-required-clause-fault
returns-in-loop-required-clause-fault c =
    let t = c.args.modules.now in
    let i = c.loop-required.required-index in
    let at = read_at c.args.all.now i c.loop-required-test.true c.required-item.is in
    let none : IsNotByInfo (provisions t) (requirement_of c.required-item.result) = elim c.match-required.branch [
      | in-Some+in_default-maker w ↦
          let found = module_there t c.requires i at w.in-Some.is in
          object_not_info (provisions t) c.requires.differ found.0 _ (requirement_of c.required-item.result) _ found.1 w.in_default-maker.is
      | in_default w ↦ λ by. no_module t c.requires i at w.in_default.is by.0 by.1 by.3
    ] in
    for_boxed (λ fault. (kept : List Name) → Reports 6 t kept fault) _ _
    (λ kept. reports_info_unknown t kept i c.loop-required.invariant (required_there t c.requires i at) none
    (cc (c.in_ok-copy.ensures, c.in_ok-copy-2.ensures, c.in_ok-copy-3.ensures)))
    c.failure_of.ensures
