use Rattle.std.proofs.Common.{[], ◌∷◌}
use Rattle.collate_core.specs.Prelude.{table_of, tables_of}
use Rattle.collate_core.proofs.BuildLemmas as build
use Rattle.collate_core.proofs.Gains.{gained_after_target, gained_after_project, all_made}
use Rattle.collate_core.proofs.laws.no_race.Goals as goal

pub returns-clause-target : goal.returns-clause-target
returns-clause-target c = λ target g new after.
    let laws = c.added_files_can_be_ordered.ensures in
    build.no_race laws.required laws.all_required laws.one_file (table_of target ∷ []) g new (gained_after_target after)

pub returns-clause-project : goal.returns-clause-project
returns-clause-project c = λ targets outs applied g new after.
    let laws = c.added_files_can_be_ordered.ensures in
    build.no_race laws.required laws.all_required laws.one_file (tables_of targets outs applied) g new
    (gained_after_project targets outs (c.files_of_a_project_apply_in_any_order.ensures.orders after.style targets outs after.project) applied g new after)

pub returns-clause-all_made : goal.returns-clause-all_made
returns-clause-all_made c = λ targets outs applied g new after.
    let laws = c.added_files_can_be_ordered.ensures in
    let orders = c.files_of_a_project_apply_in_any_order.ensures.orders after.style targets outs after.project in
    let race = build.no_race laws.required laws.all_required laws.one_file (tables_of targets outs applied) g new
    (gained_after_project targets outs orders applied g new after) in
    all_made targets outs orders applied g new after (c.files_of_a_project_apply_in_any_order.ensures.numbered after.style targets outs after.project) race

pub returns-clause-order : goal.returns-clause-order
returns-clause-order c = build.least_order_runs
