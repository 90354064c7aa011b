-- What is true at each moment of a write, whatever it finds.
use Rattle.std.specs.Prelude.{◌≡◌, ◌⊎◌, ℕ, List, [], ◌∷◌, ◌++◌, Some, Bool, true, false, Ok, Err}
use Rattle.std.specs.declared.fs.Permissions.{Permissions}
use Rattle.system_files.specs.declared.disk.Kind.{Kind}
use Rattle.system_files.specs.declared.disk.Kind.TheVariants.{File}
use Rattle.system_files.specs.Disk.{Bytes, PathText, DiskCall, DoneOrError, following, resolving, emptying}
use Rattle.system_files.specs.Moments.{Files, SameBut, AtEachMoment, AllLeave, OldOrNew}
use Rattle.system_files.specs.Writing.{new_name}

-- one of the calls is for writing in place
abbrev pub IsInPlace : List DiskCall → Type 0
IsInPlace calls =
    (before after : List DiskCall) × (name : PathText) × (result : DoneOrError)
    × (calls ≡ before ++ emptying name result ∷ after)

-- the file that a write of this name is for: of this name, or the one to which a link leads
abbrev pub IsFileFor : PathText → List DiskCall → PathText → Type 0
IsFileFor name calls target =
    (target ≡ name)
    ⊎ ((before after : List DiskCall) × (calls ≡ before ++ resolving name (Ok target) ∷ after))

-- What a write has led to, if nobody else changes files meanwhile: the file has these bytes if it
-- succeeded, and its old ones if not.
abbrev pub Ends : DoneOrError → PathText → Bytes → Files → Files → Type 0
Ends (Ok done) target bytes old new = new target ≡ Some bytes
Ends (Err error) target bytes old new = new target ≡ old target

-- At each moment of the calls, even if the run is killed in one, the file has its old bytes or
-- these, and each other name but that of the run's new file has the same bytes, whatever others do
-- meanwhile to all files but the new one.
abbrev pub KeepsOldOrNew : PathText → Bytes → List DiskCall → DoneOrError → Type 0
KeepsOldOrNew name bytes calls result =
    (target : PathText) × (number : ℕ) × IsFileFor name calls target
    × ((files : Files) → AtEachMoment (new_name target number)
    (OldOrNew target (new_name target number) bytes) calls files)
    × ((old new : Files) → AllLeave calls old new → Ends result target bytes old new)

-- This name has the bytes that it had, or a beginning of these, and all other names the same.
abbrev pub OldOrBeginning : PathText → Bytes → Files → Files → Type 0
OldOrBeginning name bytes old new =
    ((new name ≡ old name)
    ⊎ ((some rest : Bytes) × (bytes ≡ some ++ rest) × (new name ≡ Some some)))
    × SameBut name name old new

-- A file that was compared with bytes has them, or has not, or is no regular file.
abbrev pub Differs : Bytes → Bytes → Bool → List DiskCall → Type 0
Differs wanted bytes true calls = bytes ≡ wanted
Differs wanted bytes false calls =
    (bytes ≡ wanted → ⊥)
    ⊎ ((name : PathText) × (kind : Kind) × (calls ≡ following name (Ok kind) ∷ [])
    × ((permissions : Permissions) → kind ≡ File permissions → ⊥))
