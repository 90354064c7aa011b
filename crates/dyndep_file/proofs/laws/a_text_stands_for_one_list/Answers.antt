use Rattle.dyndep_file.proofs.LawLemmas.{one_list}
use Rattle.dyndep_file.proofs.laws.a_text_stands_for_one_list.Goals as goal

pub returns : goal.returns
returns c = one_list
