use Rattle.std.proofs.Common.{rules, refl}
use Rattle.commands.specs.Folder.{comparing}
use Rattle.disk_folder.proofs.Runs.{told_next}
use Rattle.disk_folder.proofs.folder.DiskFolderFolder.has.Goals as goal

pub invariant_of-self : goal.invariant_of-self
invariant_of-self g c = record {
  made = told_next _ _ _ _ _ (comparing c.args.name.now c.args.bytes.now c.unwrap_or-same.result) _
      (λ made has. (refl, (c.has_bytes.result, has, search rules))) c.args.self.now.made c.has_bytes.ensures c.then-self.ensures.1;
}
