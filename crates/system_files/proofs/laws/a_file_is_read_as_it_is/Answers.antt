use Rattle.system_files.proofs.ReadFrom.{all_read, beginning_read, up_to_read, compared_read}
use Rattle.system_files.proofs.laws.a_file_is_read_as_it_is.Goals as goal

pub returns-clause-all : goal.returns-clause-all
returns-clause-all c = all_read

pub returns-clause-beginning : goal.returns-clause-beginning
returns-clause-beginning c = beginning_read

pub returns-clause-read : goal.returns-clause-read
returns-clause-read c = up_to_read

pub returns-clause-compared : goal.returns-clause-compared
returns-clause-compared c = compared_read
