use Rattle.std.proofs.Common.{refl, ap, [], ◌∷◌, ◌++◌, ◌∙◌}
use Rattle.disk_folder.specs.Prelude.{fed, reading}
use Rattle.disk_folder.proofs.Runs.{told_next}
use Rattle.disk_folder.proofs.folder.DiskFolderFolder.feed.Goals as goal

pub invariant_of-self : goal.invariant_of-self
invariant_of-self g c = record {
  made = told_next _ _ _ _ _ (reading c.args.name.now (fed c.feed_file-ended.new.history.given c.feed_file-ended.result)) _
      (λ made reads. (refl, reads)) c.args.self.now.made c.feed_file-ended.ensures.disk
      (c.then-self.ensures.1 ∙ ap (λ calls. calls ++ reading c.args.name.now (fed c.feed_file-ended.new.history.given c.feed_file-ended.result) ∷ []) c.feed_file-ended.ensures.calls);
}
