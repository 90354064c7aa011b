use Rattle.dyndep_file.proofs.LawLemmas.{stands_for_only}
use Rattle.dyndep_file.proofs.laws.written_text_stands_for_statements.Goals as goal

pub returns : goal.returns
returns c = stands_for_only
