use Rattle.dyndep_file.proofs.ReadLemmas.{unrefused}
use Rattle.dyndep_file.proofs.laws.accepted_bytes_have_no_fault.Goals as goal

pub returns : goal.returns
returns c = unrefused
