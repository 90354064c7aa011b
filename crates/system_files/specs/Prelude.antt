-- The names that clauses and proofs of this crate cite, passed on from one place. Declares nothing.
pub use Rattle.std.specs.Prelude.{[]}
pub use Rattle.std.specs.declared.io.Error.{Error}
pub use Rattle.std.specs.IoError.{error_kind}
pub use Rattle.std.specs.declared.fs.Permissions.{Permissions}
pub use Rattle.system_files.specs.Disk.{IsKindOf, Bytes, PathText, DiskCall, DoneOrError, drawing, looking, following, resolving, opening, getting, creating, emptying, allowing, appending, renaming, removing, done, found_name, got_in, AddsDiskCalls, MakesDiskCalls}
pub use Rattle.system_files.specs.Moments.{Files, Same, SameBut, PutsBytes, Appends, Leaves, CutShort, AtEachMoment, AllLeave, OldOrNew, ReadsFrom}
pub use Rattle.system_files.specs.Writing.{Append, some_of, none_of, append_call, appended, AppendsOn, Stops, Fails, AppendsAll, IsIrreplaceable, UnlessIrreplaceable, Allows, Replaces, not_created, not_written, not_renamed, renamed, new_ending, new_name, InPlace, not_opened, opened, IsEnd, GivesBytes, replaced, irreplaceable, unmarked, no_memory, InPlaceIf, LeadsNowhere, GivesTarget, GivesBehind, WritesFound, WritesMarked, WritesInRun}
pub use Rattle.system_files.specs.Laws.{IsInPlace, IsFileFor, Ends, KeepsOldOrNew, OldOrBeginning, Differs}
pub use Rattle.system_files.specs.Reading.{seen_read, got, ReadsFurther, GetsBytes, GetsUpTo, GetsAll, GetsUntil, Opens, ReadsUpTo, Compares, ComparesFound, HasBytes}
