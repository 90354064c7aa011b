-- The calls by which the system's files are read and written.
use Rattle.std.specs.Prelude.{◌≡◌, ℕ, List, ◌++◌, take, Option, option_map, Result, Ok, Err, String, string_bytes}
use Rattle.std.specs.Global.{Global}
use Rattle.std.specs.Fs.{metadata_mode, permissions_mode, file_type, IsFile, IsSymlink}
use Rattle.std.specs.declared.fs.Metadata.{Metadata}
use Rattle.std.specs.declared.fs.Permissions.{Permissions}
use Rattle.std.specs.declared.io.Error.{Error}
pub use Rattle.ninja_text.specs.Bytes.{Bytes, PathText}
use Rattle.system_files.specs.declared.disk.Kind.{Kind}
use Rattle.system_files.specs.declared.disk.Kind.TheVariants.{File, Link, Other}

-- what there is under a name, by its metadata
abbrev pub IsKindOf : Metadata → Kind → Type 0
IsKindOf found Link = IsSymlink (file_type found)
IsKindOf found (File permissions) =
    IsFile (file_type found) × (permissions_mode permissions ≡ metadata_mode found)
IsKindOf found Other = (IsSymlink (file_type found) → ⊥) × (IsFile (file_type found) → ⊥)

-- whether a call succeeded, or its error
abbrev pub DoneOrError : Type 0
DoneOrError = Result (Unit {0}) Error

-- one call: the name of the file, what else was passed, and the result
pub data DiskCall : Type 0 where
  drawing : Option ℕ → DiskCall
  looking : PathText → Result Kind Error → DiskCall
  following : PathText → Result Kind Error → DiskCall
  resolving : PathText → Result PathText Error → DiskCall
  opening : PathText → DoneOrError → DiskCall
  getting : PathText → Result Bytes Error → DiskCall
  creating : PathText → DoneOrError → DiskCall
  emptying : PathText → DoneOrError → DiskCall
  allowing : PathText → Permissions → DoneOrError → DiskCall
  appending : PathText → Bytes → Result ℕ Error → DiskCall
  renaming : PathText → PathText → DoneOrError → DiskCall
  removing : PathText → DoneOrError → DiskCall

-- whether a file was opened
abbrev pub done : {F : Type 0} → Result F Error → DoneOrError
done (Ok file) = Ok tt
done (Err error) = Err error

-- the name that was found
abbrev pub found_name : Result (String Global) Error → Result PathText Error
found_name (Ok name) = Ok (string_bytes name)
found_name (Err error) = Err error

-- what a call read: the bytes of the buffer that it filled
abbrev pub got_in : Bytes → Result ℕ Error → Result Bytes Error
got_in buffer (Ok count) = Ok (take count buffer)
got_in buffer (Err error) = Err error

-- these calls were made, in this order, and no other, if it is known which were made before
abbrev pub AddsDiskCalls : Option (List DiskCall) → Option (List DiskCall) → List DiskCall → Type 0
AddsDiskCalls old new calls = new ≡ option_map (λ before. before ++ calls) old

-- calls were made of which this holds, and no other
abbrev pub MakesDiskCalls : Option (List DiskCall) → Option (List DiskCall)
    → (List DiskCall → Type 0) → Type 0
MakesDiskCalls old new Holds = (calls : List DiskCall) × AddsDiskCalls old new calls × Holds calls
