-- The calls of a run on its disk.
use Rattle.std.specs.Prelude.{◌≡◌, ◌⊎◌, ℕ, List, [], ◌∷◌, map, Bool, false, Option, None, option_map, Result, Ok, Err}
use Rattle.std.specs.List.{flat_map}
use Rattle.std.specs.IoError.{error_kind}
use Rattle.std.specs.declared.io.Error.{Error}
use Rattle.std.specs.declared.io.ErrorKind.TheVariants.{OutOfMemory}
use Rattle.system_files.specs.Disk.{Bytes, PathText, DiskCall}
use Rattle.system_files.specs.Reading.{GetsBytes, GetsAll, GetsUntil, Opens, HasBytes}
use Rattle.system_files.specs.Writing.{WritesInRun}
use Rattle.commands.specs.Folder.{FileCall, FileRead, reading, comparing, writing}

-- Calls that read an open file: all of its bytes, or a beginning. An error is that of the system,
-- or that memory ran out.
abbrev pub ReadsFile : PathText → List DiskCall → Result FileRead Error → Type 0
ReadsFile name calls (Ok file) =
    GetsAll name calls file.bytes ⊎ (GetsBytes name calls file.bytes × (file.ended ≡ false))
ReadsFile name calls (Err error) =
    GetsUntil name calls error
    ⊎ ((bytes : Bytes) × GetsBytes name calls bytes × (error_kind error ≡ OutOfMemory))

-- whether a file has these bytes: not if it can't be read
abbrev pub is_true : Result Bool Error → Bool
is_true (Ok same) = same
is_true (Err error) = false

-- calls of the disk that make this call, by the mark of the run before and after them
abbrev pub MakesCall : Option ℕ → Option ℕ → FileCall → List DiskCall → Type 0
MakesCall old new (reading name result) calls = (new ≡ old) × Opens (ReadsFile name) name calls result
MakesCall old new (comparing name bytes same) calls =
    (new ≡ old)
    × ((told : Result Bool Error) × HasBytes bytes name calls told × (same ≡ is_true told))
MakesCall old new (writing name bytes result) calls = WritesInRun old new name bytes calls result

-- a call of a run, with the calls of the disk that make it
pub record Step : Type 0 where
  pub call : FileCall
  pub made : List DiskCall

abbrev pub calls_in : List Step → List FileCall
calls_in steps = map (λ (step : Step). step.call) steps

abbrev pub made_in : List Step → List DiskCall
made_in steps = flat_map (λ (step : Step). step.made) steps

-- The calls of the disk make the calls of the run, one after another.
abbrev pub AreSteps : Option ℕ → Option ℕ → List Step → Type 0
AreSteps old new [] = new ≡ old
AreSteps old new (step ∷ steps) =
    (mid : Option ℕ) × MakesCall old mid step.call step.made × AreSteps mid new steps

-- no call was made on the disk yet, if it is known which were made
abbrev pub HasNoCalls : Option (List DiskCall) → Type 0
HasNoCalls known = known ≡ option_map (λ before. []) known

-- the calls of a run, if those of its disk are known
abbrev pub calls_known : Option (List DiskCall) → List FileCall → Option (List FileCall)
calls_known known calls = option_map (λ made. calls) known

-- The calls on the disk, if they are known, made the calls of a run, which has this mark now.
abbrev pub HasMade : Option ℕ → Option (List DiskCall) → List FileCall → Type 0
HasMade mark known calls =
    (steps : List Step) × (known ≡ option_map (λ made. made_in steps) known)
    × (calls ≡ calls_in steps) × AreSteps None mark steps
