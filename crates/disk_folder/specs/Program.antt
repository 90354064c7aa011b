-- What the program does over a disk.
use Rattle.std.specs.Prelude.{◌≡◌, ℕ, List, [], Option, Some, None}
use Rattle.ninja_text.specs.declared.counting.Counted.{Counted}
use Rattle.system_files.specs.Disk.{Bytes, DiskCall, AddsDiskCalls}
use Rattle.commands.specs.Program.{Words, IsProgramRun}
use Rattle.disk_folder.specs.Runs.{Step, made_in, calls_in, calls_known, AreSteps}
use Rattle.disk_folder.specs.Killed.{LeavesFiles}

-- The program makes these calls on its disk and no other, and they make the calls of its run. At
-- each moment of them a beginning of its files is new.
pub record IsDiskRun {O E : Type 0} (outs : O → Option Bytes) (errs : E → Option Bytes)
    (old new : Option (List DiskCall)) (old_out new_out : Counted O) (old_err new_err : Counted E)
    (words : Words) (number : ℕ) : Type 0 where
  pub steps : List Step
  pub mark : Option ℕ
  pub made : AddsDiskCalls old new (made_in steps)
  pub are : AreSteps None mark steps
  pub runs : IsProgramRun outs errs (calls_known old []) (calls_known new (calls_in steps))
      old_out new_out old_err new_err words number
  pub killed : (before : List DiskCall) → old ≡ Some before → LeavesFiles steps
