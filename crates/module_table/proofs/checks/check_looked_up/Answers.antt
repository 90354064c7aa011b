use Rattle.std.proofs.lemmas.Result.{err_from_is_err_and, IfErr-weaker, on_ok_weaker}
use Rattle.module_table.proofs.Found.{for_fault}
use Rattle.module_table.proofs.Passing.{reported, fails, after_allowed, after_kept, none_left, eight_passed, nine_passed, seven_passed}
use Rattle.module_table.proofs.checks.check_looked_up.Goals as goal

pub returns-in_err-check_infos_known-clause-fault : goal.returns-in_err-check_infos_known-clause-fault
returns-in_err-check_infos_known-clause-fault c =
    let p = err_from_is_err_and c.from_residual.result c.from_residual.ensures.1 in
    rw (p.1, p.2) (fails c.args.modules.now c.args.kept.now 6 _ c.requires.passed c.in_err-check_infos_known.ensures.fault)

pub returns-in_err-check_infos_agree-clause-fault : goal.returns-in_err-check_infos_agree-clause-fault
returns-in_err-check_infos_agree-clause-fault c =
    let p = err_from_is_err_and c.from_residual-in_err-check_infos_agree.result c.from_residual-in_err-check_infos_agree.ensures.1 in
    rw (p.1, p.2) (fails c.args.modules.now c.args.kept.now 7 _
    (seven_passed c.args.modules.now c.args.kept.now c.in_ok-check_infos_known.ensures.ok c.requires.passed) c.in_err-check_infos_agree.ensures.fault)

pub returns-in_err-check_rings-clause-fault : goal.returns-in_err-check_rings-clause-fault
returns-in_err-check_rings-clause-fault c =
    let p = err_from_is_err_and c.from_residual-in_err-check_rings.result c.from_residual-in_err-check_rings.ensures.1 in
    rw (p.1, p.2) (fails c.args.modules.now c.args.kept.now 8 _
    (eight_passed c.args.modules.now c.args.kept.now c.in_ok-check_infos_known.ensures.ok c.requires.passed c.in_ok-check_infos_agree.ensures.ok)
    c.in_err-check_rings.ensures.fault)

pub returns-in_err-check_objects_allowed-clause-fault : goal.returns-in_err-check_objects_allowed-clause-fault
returns-in_err-check_objects_allowed-clause-fault c =
    let p = err_from_is_err_and c.from_residual-in_err-check_objects_allowed.result c.from_residual-in_err-check_objects_allowed.ensures.1 in
    rw (p.1, p.2) (fails c.args.modules.now c.args.kept.now 9 _
    (nine_passed c.args.modules.now c.args.kept.now c.in_ok-check_infos_known.ensures.ok c.requires.passed c.in_ok-check_infos_agree.ensures.ok
    c.in_ok-check_rings.ensures.ok) c.in_err-check_objects_allowed.ensures.fault)

pub returns-in_err-check_infos_allowed-clause-fault : goal.returns-in_err-check_infos_allowed-clause-fault
returns-in_err-check_infos_allowed-clause-fault c =
    let p = err_from_is_err_and c.from_residual-in_err-check_infos_allowed.result c.from_residual-in_err-check_infos_allowed.ensures.1 in
    rw (p.1, p.2) (fails c.args.modules.now c.args.kept.now 9 _
    (nine_passed c.args.modules.now c.args.kept.now c.in_ok-check_infos_known.ensures.ok c.requires.passed c.in_ok-check_infos_agree.ensures.ok
    c.in_ok-check_rings.ensures.ok) c.in_err-check_infos_allowed.ensures.fault)

pub returns-clause-fault : goal.returns-clause-fault
returns-clause-fault c =
    let t = c.args.modules.now in
    let kept = c.args.kept.now in
    IfErr-weaker c.check_kept.result _ _ (λ failure. for_fault failure
    (λ fault is. reported t kept 10 fault.value is
    (after_allowed t kept c.in_ok-check_objects_allowed.ensures.ok c.in_ok-check_infos_allowed.ensures.ok
    (nine_passed t kept c.in_ok-check_infos_known.ensures.ok c.requires.passed c.in_ok-check_infos_agree.ensures.ok c.in_ok-check_rings.ensures.ok))))
    c.check_kept.ensures.fault

pub returns-clause-no_fault : goal.returns-clause-no_fault
returns-clause-no_fault c =
    let t = c.args.modules.now in
    let kept = c.args.kept.now in
    on_ok_weaker c.check_kept.result (λ own. none_left t kept (after_kept t kept own
    (after_allowed t kept c.in_ok-check_objects_allowed.ensures.ok c.in_ok-check_infos_allowed.ensures.ok
    (nine_passed t kept c.in_ok-check_infos_known.ensures.ok c.requires.passed c.in_ok-check_infos_agree.ensures.ok c.in_ok-check_rings.ensures.ok))))
    c.check_kept.ensures.ok
