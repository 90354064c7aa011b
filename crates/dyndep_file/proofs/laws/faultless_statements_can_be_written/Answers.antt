use Rattle.dyndep_file.proofs.WriteLemmas.{writable}
use Rattle.dyndep_file.proofs.laws.faultless_statements_can_be_written.Goals as goal

pub returns : goal.returns
returns c = writable
