use Rattle.std.proofs.Common.{◌∙◌, ◌++◌, ap}
use Rattle.std.proofs.lemmas.Result.{err_from_is_err_and}
use Rattle.module_table.specs.Prelude.{flat_map, enumerate_from, rows, provisions, names_of, info_rows}
use Rattle.module_table.proofs.Graph.{module_rows}
use Rattle.module_table.proofs.Passing.{fails, after_known}
use Rattle.module_table.proofs.checks.check_requirements.Goals as goal

pub returns-in_err-indexes-clause-fault : goal.returns-in_err-indexes-clause-fault
returns-in_err-indexes-clause-fault c =
    let p = err_from_is_err_and c.from_residual.result c.from_residual.ensures.1 in
    rw (p.1, p.2) (fails c.args.modules c.args.kept.now 5 _ c.requires c.in_err-indexes.ensures.fault)

pub check_looked_up-requires-clause-passed : goal.check_looked_up-requires-clause-passed
check_looked_up-requires-clause-passed c =
    after_known c.args.modules c.args.kept.now (rows c.in_ok-indexes.indexes.items) c.in_ok-indexes.ensures.ok c.requires

pub returns-in_err-check_looked_up-clause-fault : goal.returns-in_err-check_looked_up-clause-fault
returns-in_err-check_looked_up-clause-fault c =
    let p = err_from_is_err_and c.from_residual-in_err-check_looked_up.result c.from_residual-in_err-check_looked_up.ensures.1 in
    rw (p.1, p.2) c.in_err-check_looked_up.ensures.fault

pub new-requires-clause-needs : goal.new-requires-clause-needs
new-requires-clause-needs c =
    let t = c.args.modules in
    module_rows t (rows c.all_required.new.needs.items)
    (c.in_ok-required.ensures.needs ∙ ap (λ first. first ++ flat_map (info_rows (names_of (provisions t))) (enumerate_from 0 t.infos)) c.in_ok-needs.ensures)
