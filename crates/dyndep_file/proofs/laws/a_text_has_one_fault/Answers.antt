use Rattle.dyndep_file.proofs.LawLemmas.{one_fault}
use Rattle.dyndep_file.proofs.laws.a_text_has_one_fault.Goals as goal

pub returns : goal.returns
returns c = one_fault
