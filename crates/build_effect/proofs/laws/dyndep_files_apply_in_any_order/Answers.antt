use Rattle.build_effect.proofs.FileOrders as lemmas
use Rattle.build_effect.proofs.laws.dyndep_files_apply_in_any_order.Goals as goal

pub returns-clause-any_order : goal.returns-clause-any_order
returns-clause-any_order c = lemmas.any_order

pub returns-clause-end_alike : goal.returns-clause-end_alike
returns-clause-end_alike c = lemmas.orders_end_alike
