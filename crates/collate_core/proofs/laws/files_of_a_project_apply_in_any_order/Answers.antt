use Rattle.collate_core.proofs.Linked.{sound_of}
use Rattle.collate_core.proofs.Effects as lemmas
use Rattle.collate_core.proofs.ProjectOrderLemmas as order
use Rattle.collate_core.proofs.laws.files_of_a_project_apply_in_any_order.Goals as goal

pub returns-clause-numbered : goal.returns-clause-numbered
returns-clause-numbered c = λ style targets outs project.
    let laws = c.added_files_can_be_ordered.ensures in
    order.ordered laws.required laws.all_required laws.one_file laws.once c.bytes_determine_the_value.ensures.info style targets outs project

pub returns-clause-orders : goal.returns-clause-orders
returns-clause-orders c = λ style targets outs project.
    let laws = c.added_files_can_be_ordered.ensures in
    let any = c.dyndep_files_apply_in_any_order.ensures in
    lemmas.orders laws.orderable laws.once laws.apart laws.required any.any_order any.end_alike style targets outs project

pub returns-clause-orderable : goal.returns-clause-orderable
returns-clause-orderable c = λ style targets outs project g names order_of h ranks new count meets outputs level all indices applies.
    let laws = c.added_files_can_be_ordered.ensures in
    let any = c.dyndep_files_apply_in_any_order.ensures in
    let orders = lemmas.orders laws.orderable laws.once laws.apart laws.required any.any_order any.end_alike style targets outs project in
    let ordered = order.ordered laws.required laws.all_required laws.one_file laws.once c.bytes_determine_the_value.ensures.info style targets outs project in
    lemmas.end_orderable c.the_graph_after_files_can_be_ordered.ensures laws.required style targets outs project orders ordered
    (λ n t at. lemmas.added_once t (sound_of style targets outs project n at) laws.orderable laws.once laws.apart laws.required) g names count meets order_of
    h ranks new outputs level all indices applies
