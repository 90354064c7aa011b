use Rattle.disk_folder.proofs.Killed.{leaves_files}
use Rattle.disk_folder.proofs.laws.a_beginning_of_the_files_is_new.Goals as goal

pub returns : goal.returns
returns c = leaves_files
