use Rattle.std.proofs.Math.Logic.{∥∥₁_map}
use Rattle.disk_folder.proofs.Killed.{leaves_files}
use Rattle.disk_folder.proofs.Runs.{all_made, calls_made}
use Rattle.disk_folder.proofs.program.run.Goals as goal

pub returns : goal.returns
returns g c = ∥∥₁_map c.program_run-status.new.folder.made (λ has.
    let ran = rw (c.new-folder.ensures.calls, c.new-folder.ensures.disk, has.2) at c.program_run-status.ensures in
    record {
      steps = has.0;
      mark = c.program_run-status.new.folder.mark;
      made = all_made _ _ _ _ _ c.requires has.1 ran.runs.1;
      are = has.3;
      runs = ran;
      killed = λ before is. leaves_files _ has.0 ran.outcome _ _ (rw (calls_made _ _ _ _ before is ran.runs.1) at ran.runs.2) has.3;
    })
