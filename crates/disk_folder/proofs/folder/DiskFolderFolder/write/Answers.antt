use Rattle.disk_folder.specs.Prelude.{writing}
use Rattle.disk_folder.proofs.Runs.{makes_next}
use Rattle.disk_folder.proofs.folder.DiskFolderFolder.write.Goals as goal

pub invariant_of-self : goal.invariant_of-self
invariant_of-self g c = record {
  made = makes_next _ _ _ _ _ _ (writing c.args.name.now c.args.bytes.now c.write-result.result)
      c.args.self.now.made c.write-result.ensures c.then-self.ensures.1;
}
