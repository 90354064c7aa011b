-- What there is of the files of a run at each moment.
use Rattle.std.specs.Prelude.{◌≡◌, ◌⊎◌, ⊤, ℕ, List, [], ◌∷◌, ◌++◌, Some, Ok}
use Rattle.system_files.specs.Disk.{Bytes, PathText, DiskCall, looking, opening}
use Rattle.system_files.specs.declared.disk.Kind.TheVariants.{Link}
use Rattle.system_files.specs.Moments.{Files, Leaves, CutShort, AllLeave, ReadsFrom}
use Rattle.system_files.specs.Writing.{new_name}
use Rattle.commands.specs.Files.{WritesFiles}
use Rattle.commands.specs.Folder.{FileCall, reading}
use Rattle.commands.specs.Outcomes.{FileValue, Outcome}
use Rattle.disk_folder.specs.Runs.{Step, calls_in, made_in}

-- What is read of each file that these calls open is what it has.
abbrev pub ReadsNow : Files → List DiskCall → Type 0
ReadsNow now calls =
    (name : PathText) (before after : List DiskCall) → calls ≡ before ++ opening name (Ok tt) ∷ after
    → (bytes : Bytes) × (now name ≡ Some bytes) × ReadsFrom bytes after

-- This holds before and after each of these calls, and if the run is killed in one.
abbrev pub AtEachCall : (Files → Type 0) → List DiskCall → Files → Type 0
AtEachCall Holds [] now = Holds now
AtEachCall Holds (call ∷ calls) now =
    Holds now
    × ((cut : Files) → CutShort call now cut → Holds cut)
    × ((next : Files) → Leaves call now next → AtEachCall Holds calls next)

-- This holds at each moment of a run, even if it is killed in a call. Nobody else changes files
-- meanwhile.
abbrev pub AtEachMomentOfRun : (Files → Type 0) → List Step → Files → Type 0
AtEachMomentOfRun Holds [] now = Holds now
AtEachMomentOfRun Holds (step ∷ steps) now =
    AtEachCall Holds step.made now
    × ((next : Files) → AllLeave step.made now next → ReadsNow now step.made
    → AtEachMomentOfRun Holds steps next)

-- each of these files has its new bytes
abbrev pub HaveBytes : List FileValue → Files → Type 0
HaveBytes [] now = ⊤
HaveBytes (file ∷ files) now = (now file.name ≡ Some file.bytes) × HaveBytes files now

-- each of these files is as it was
abbrev pub AreOld : List FileValue → Files → Files → Type 0
AreOld [] old now = ⊤
AreOld (file ∷ files) old now = (now file.name ≡ old file.name) × AreOld files old now

-- A beginning of these files has its new bytes, and all others but the next one are as they were.
abbrev pub AreWritten : List FileValue → Files → Files → Type 0
AreWritten [] old now = ⊤
AreWritten (file ∷ files) old now =
    ((now file.name ≡ Some file.bytes) × AreWritten files old now) ⊎ AreOld files old now

-- none of these files has this name
abbrev pub NoneNamed : PathText → List FileValue → Type 0
NoneNamed name [] = ⊤
NoneNamed name (file ∷ files) = (file.name ≡ name → ⊥) × NoneNamed name files

-- this is not the name of a new file
abbrev pub IsNotNew : PathText → Type 0
IsNotNew name = (other : PathText) (number : ℕ) → name ≡ new_name other number → ⊥

-- the files have different names, and none has that of a new file
abbrev pub AreApart : List FileValue → Type 0
AreApart [] = ⊤
AreApart (file ∷ files) = NoneNamed file.name files × IsNotNew file.name × AreApart files

-- no file that the calls look at is a link
abbrev pub HaveNoLink : List DiskCall → Type 0
HaveNoLink calls =
    (name : PathText) (before after : List DiskCall) → calls ≡ before ++ looking name (Ok Link) ∷ after
    → ⊥

-- all of these calls read
abbrev pub AllRead : List FileCall → Type 0
AllRead [] = ⊤
AllRead (reading name result ∷ calls) = AllRead calls
AllRead (call ∷ calls) = ⊥

-- The run reads, and then writes these files. At each moment a beginning of them is new, and all
-- others but the next one are as they were.
pub record LeavesFiles (steps : List Step) : Type 0 where
  pub files : List FileValue
  pub reads : List FileCall
  pub writes : List FileCall
  pub outcome : Outcome (Unit {0})
  pub calls_are : calls_in steps ≡ reads ++ writes
  pub are_reads : AllRead reads
  pub are_writes : WritesFiles files writes outcome
  pub killed : (old : Files) → AreApart files → HaveNoLink (made_in steps)
      → AtEachMomentOfRun (AreWritten files old) steps old
