use Rattle.in_memory.proofs.Folders.{one_more}
use Rattle.in_memory.proofs.files.FilesFolder.read.Goals as goal

pub returns : goal.returns
returns c = one_more _ _ _ _ c.then-self.ensures
