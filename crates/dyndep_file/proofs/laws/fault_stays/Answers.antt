use Rattle.dyndep_file.proofs.LawLemmas.{fault_stays}
use Rattle.dyndep_file.proofs.laws.fault_stays.Goals as goal

pub returns : goal.returns
returns c = fault_stays
