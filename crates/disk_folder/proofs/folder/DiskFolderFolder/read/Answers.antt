use Rattle.std.proofs.Common.{◌≡◌, refl}
use Rattle.system_files.specs.Reading.{Opens, ReadsUpTo, seen_read}
use Rattle.disk_folder.specs.Prelude.{cow_slice_items, answer_of, reading}
use Rattle.disk_folder.proofs.Runs.{told_next, reads_opened}
use Rattle.disk_folder.proofs.folder.DiskFolderFolder.read.Goals as goal
use Rattle.disk_folder.proofs.folder.DiskFolderFolder.read.Goals.{in-Ok, in-Err}

pub invariant_of-self : goal.invariant_of-self
invariant_of-self g c =
    let most = c.args.most in
    let name = c.args.name.now in
    let answer = answer_of cow_slice_items most c.match-read.result in
    let same : answer ≡ answer_of (λ bytes. bytes.items) most c.read.result = elim c.match-read.branch [
      | in-Ok w ↦ rw (w.result-is, w.in-Ok.is) refl
      | in-Err w ↦ rw (w.result-is, w.in-Err.is) refl
    ] in record {
      made = told_next _ _ _ _ _ (reading name answer) (λ calls. Opens (ReadsUpTo most name) name calls (seen_read c.read.result))
          (λ made reads. (refl, rw same (reads_opened most name made c.read.result reads))) c.args.self.now.made c.read.ensures c.then-self.ensures.1;
    }
