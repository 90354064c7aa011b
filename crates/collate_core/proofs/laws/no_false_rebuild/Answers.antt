use Rattle.collate_core.proofs.BuildLemmas.{no_false_rebuild}
use Rattle.collate_core.proofs.Gains.{gained_after_target, gained_after_project}
use Rattle.collate_core.proofs.laws.no_false_rebuild.Goals as goal

pub returns-clause-target : goal.returns-clause-target
returns-clause-target c = λ target g new after.
    let laws = c.added_files_can_be_ordered.ensures in
    no_false_rebuild laws.required laws.all_required laws.one_file (gained_after_target after)

pub returns-clause-project : goal.returns-clause-project
returns-clause-project c = λ targets outs applied g new after.
    let laws = c.added_files_can_be_ordered.ensures in
    let orders = c.files_of_a_project_apply_in_any_order.ensures.orders after.style targets outs after.project in
    no_false_rebuild laws.required laws.all_required laws.one_file
    (gained_after_project targets outs orders applied g new after)
