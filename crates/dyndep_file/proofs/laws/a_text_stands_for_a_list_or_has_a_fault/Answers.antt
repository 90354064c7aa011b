use Rattle.dyndep_file.proofs.LawLemmas.{not_both, one_of_both}
use Rattle.dyndep_file.proofs.laws.a_text_stands_for_a_list_or_has_a_fault.Goals as goal

pub returns-clause-not_both : goal.returns-clause-not_both
returns-clause-not_both c = not_both

pub returns-clause-one_of_both : goal.returns-clause-one_of_both
returns-clause-one_of_both c = one_of_both
