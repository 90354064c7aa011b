use Rattle.dyndep_file.proofs.WriteLemmas.{only_too_long, one_too_long}
use Rattle.dyndep_file.proofs.laws.writable_statements_can_only_be_too_long.Goals as goal

pub returns-clause-lists : goal.returns-clause-lists
returns-clause-lists c = only_too_long

pub returns-clause-statements : goal.returns-clause-statements
returns-clause-statements c = one_too_long
