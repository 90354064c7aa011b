-- The names that clauses and proofs of this crate cite, passed on from one place. Declares nothing.
pub use Rattle.std.specs.Prelude.{[], Option, Ok, Err}
pub use Rattle.std.specs.Borrow.{ftrue}
pub use Rattle.std.specs.declared.io.Error.{Error}
pub use Rattle.std.specs.Cow.{cow_slice_items}
pub use Rattle.system_files.specs.Disk.{Bytes, MakesDiskCalls}
pub use Rattle.system_files.specs.Moments.{Files}
pub use Rattle.system_files.specs.Reading.{Opens}
pub use Rattle.commands.specs.Folder.{FileCall, answer_of, WasGiven, reading, writing}
pub use Rattle.commands.specs.Outcomes.{FileValue, Outcome, OutputValue}
pub use Rattle.commands.specs.Program.{Words, words_of, ArgumentsRun}
pub use Rattle.disk_folder.specs.Histories.{fed, given_after, calls_of}
pub use Rattle.disk_folder.specs.Runs.{ReadsFile, HasNoCalls, calls_known, HasMade, Step, AreSteps, calls_in}
pub use Rattle.disk_folder.specs.Killed.{AreWritten, HaveBytes, LeavesFiles}
pub use Rattle.disk_folder.specs.Program.{IsDiskRun}
