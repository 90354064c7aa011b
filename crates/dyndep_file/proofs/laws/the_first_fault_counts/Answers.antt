use Rattle.dyndep_file.proofs.WriteLemmas.{fault_behind}
use Rattle.dyndep_file.proofs.laws.the_first_fault_counts.Goals as goal

pub returns : goal.returns
returns c = fault_behind
