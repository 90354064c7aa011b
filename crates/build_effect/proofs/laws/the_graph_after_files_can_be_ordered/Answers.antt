use Rattle.build_effect.proofs.EdgeOrders as lemmas
use Rattle.build_effect.proofs.laws.the_graph_after_files_can_be_ordered.Goals as goal

pub returns : goal.returns
returns c = lemmas.files_order
