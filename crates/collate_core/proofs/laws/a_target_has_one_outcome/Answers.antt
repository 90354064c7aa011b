use Rattle.collate_core.proofs.Outcomes.{OneAnswer, not_refused, one_refusal, one_project_refusal, project_not_refused}
use Rattle.collate_core.proofs.laws.a_target_has_one_outcome.Goals as goal

pub returns-clause-collate : goal.returns-clause-collate
returns-clause-collate c =
    let answers : OneAnswer = record { scan = c.bytes_have_one_result.ensures.scan; info = c.bytes_have_one_result.ensures.info } in
    not_refused answers

pub returns-clause-one : goal.returns-clause-one
returns-clause-one c =
    let answers : OneAnswer = record { scan = c.bytes_have_one_result.ensures.scan; info = c.bytes_have_one_result.ensures.info } in
    one_refusal answers c.one_fault_is_reported.ensures

pub returns-clause-project : goal.returns-clause-project
returns-clause-project c =
    let answers : OneAnswer = record { scan = c.bytes_have_one_result.ensures.scan; info = c.bytes_have_one_result.ensures.info } in
    project_not_refused answers

pub returns-clause-one_of_project : goal.returns-clause-one_of_project
returns-clause-one_of_project c =
    let answers : OneAnswer = record { scan = c.bytes_have_one_result.ensures.scan; info = c.bytes_have_one_result.ensures.info } in
    one_project_refusal answers c.one_fault_is_reported.ensures
