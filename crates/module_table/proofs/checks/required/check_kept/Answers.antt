use Rattle.std.proofs.Common.{◌∙◌, ap, sym}
use Rattle.module_table.specs.Prelude.{option_map, provisions, provision_of, IsByObject, IsNotByObject, PrivateUnknown, Reports}
use Rattle.module_table.proofs.Lists.{read_at, accepts_next}
use Rattle.module_table.proofs.Found.{info_not_object, found_named, none_named, for_boxed}
use Rattle.module_table.proofs.Passing.{reports_private_unknown}
use Rattle.module_table.proofs.checks.required.check_kept.Goals as goal
use Rattle.module_table.proofs.checks.required.check_kept.Goals.{in-Some+in_default-maker, in_default}

pub loop-name-preserved : goal.loop-name-preserved
loop-name-preserved c =
    let ps = provisions c.args.modules.now in
    let i = c.loop-name.name-index in
    let found = found_named ps c.name-item.result (provision_of c.in-Some.module.now) (sym c.in-Some.ensures.module) in
    accepts_next (IsByObject ps) c.args.kept.now i (read_at c.args.kept.now i c.loop-name-test.true c.name-item.is) c.loop-name.invariant
    (found.0, _, c.in-Object.field-0, found.1, c.in-Object.is)

pub returns-in-loop-name-clause-fault : goal.returns-in-loop-name-clause-fault
returns-in-loop-name-clause-fault c =
    let t = c.args.modules.now in
    let ps = provisions t in
    let i = c.loop-name.name-index in
    let name = c.name-item.result in
    let none : IsNotByObject ps name = elim c.match-find.branch [
      | in-Some+in_default-maker w ↦
          let found = found_named ps name (provision_of w.in-Some.module.now) (sym w.in-Some.ensures.module) in
          info_not_object ps c.requires found.0 _ name _ found.1 w.in_default-maker.is
      | in_default w ↦ λ by. none_named ps name (sym c.find.ensures.module ∙ ap (option_map _) w.in_default.is) by.0 by.1 by.3
    ] in
    for_boxed (Reports 10 t c.args.kept.now) _ _
    (reports_private_unknown t c.args.kept.now i c.loop-name.invariant (read_at c.args.kept.now i c.loop-name-test.true c.name-item.is) none
    (ap PrivateUnknown c.in_ok-name.ensures)) c.failure_of.ensures
