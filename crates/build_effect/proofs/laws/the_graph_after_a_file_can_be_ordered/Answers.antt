use Rattle.build_effect.proofs.EdgeOrders as lemmas
use Rattle.build_effect.proofs.laws.the_graph_after_a_file_can_be_ordered.Goals as goal

pub returns : goal.returns
returns c = lemmas.level_orders
