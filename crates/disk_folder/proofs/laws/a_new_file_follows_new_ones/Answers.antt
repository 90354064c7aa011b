use Rattle.disk_folder.proofs.Killed.{old_or_all_before_new}
use Rattle.disk_folder.proofs.laws.a_new_file_follows_new_ones.Goals as goal

pub returns : goal.returns
returns c = old_or_all_before_new
