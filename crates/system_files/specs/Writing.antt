-- How a file is given its bytes.
use Rattle.std.specs.Prelude.{◌≡◌, ◌⊎◌, ℕ, ◌-◌, ◌^◌, ◌≤◌, List, [], ◌∷◌, ◌++◌, length, take, map, Option, Some, None, Result, Ok, Err, OnOk, IfErr, Bool, true, false, codes, decimal}
use Rattle.std.specs.List.{All, flat_map}
use Rattle.std.specs.IoError.{error_kind}
use Rattle.std.specs.declared.fs.Permissions.{Permissions}
use Rattle.std.specs.declared.io.Error.{Error}
use Rattle.std.specs.declared.io.ErrorKind.TheVariants.{Interrupted, NotFound, OutOfMemory, WriteZero, PermissionDenied, ReadOnlyFilesystem, InvalidFilename, InvalidInput, CrossesDevices, ResourceBusy, Unsupported}
use Rattle.system_files.specs.declared.disk.Kind.{Kind}
use Rattle.system_files.specs.declared.disk.Kind.TheVariants.{File, Link, Other}
use Rattle.system_files.specs.Disk.{Bytes, PathText, DiskCall, DoneOrError, drawing, looking, following, resolving, creating, emptying, allowing, appending, renaming, removing}

-- ---- bytes that are appended to an open file

-- one call that appends: the bytes that were passed, and how many were appended, or the error
pub data Append : Type 0 where
  some_of : Bytes → ℕ → Append
  none_of : Bytes → Error → Append

abbrev pub append_call : PathText → Append → DiskCall
append_call name (some_of bytes count) = appending name bytes (Ok count)
append_call name (none_of bytes error) = appending name bytes (Err error)

-- the bytes that a call appended
abbrev pub appended : Append → Bytes
appended (some_of bytes count) = take count bytes
appended (none_of bytes error) = []

-- The call appended bytes, or a signal interrupted it: appending continues.
abbrev pub AppendsOn : Append → Type 0
AppendsOn (some_of bytes count) = count ≡ 0 → ⊥
AppendsOn (none_of bytes error) = error_kind error ≡ Interrupted

-- Appending stops after this call, with this error: it failed, and not by a signal, or it appended
-- nothing.
abbrev pub Stops : Append → Error → Type 0
Stops (some_of bytes count) error = (count ≡ 0) × (error_kind error ≡ WriteZero)
Stops (none_of bytes same) error = (error ≡ same) × (error_kind error ≡ Interrupted → ⊥)

-- The last call failed with this error, and appending continued after all others; or there were
-- 2^64 - 1 calls.
abbrev pub Fails : List Append → Error → Type 0
Fails appends error =
    ((before : List Append) × (last : Append) × (appends ≡ before ++ last ∷ [])
    × All AppendsOn before × Stops last error)
    ⊎ (All AppendsOn appends × (2 ^ 64 - 1 ≤ length appends))

-- Calls that append these bytes to the open file of this name, one after another. After an error a
-- beginning of the bytes was appended.
pub record AppendsAll (name : PathText) (bytes : Bytes) (calls : List DiskCall)
    (result : DoneOrError) : Type 0 where
  pub appends : List Append
  pub calls_are : calls ≡ map (append_call name) appends
  pub some : (rest : Bytes) × (bytes ≡ flat_map appended appends ++ rest)
  pub whole : OnOk result ((flat_map appended appends ≡ bytes) × All AppendsOn appends)
  pub failed : IfErr result (Fails appends)

-- ---- a new file that takes the place of another

-- No new file can be made here, or none can take the place of this one: the directory or the file
-- may not be changed, the system rejects the new name or the call, or the file is a mount point.
abbrev pub IsIrreplaceable : Error → Type 0
IsIrreplaceable error =
    (error_kind error ≡ PermissionDenied) ⊎ (error_kind error ≡ ReadOnlyFilesystem)
    ⊎ (error_kind error ≡ InvalidFilename) ⊎ (error_kind error ≡ InvalidInput)
    ⊎ (error_kind error ≡ CrossesDevices) ⊎ (error_kind error ≡ ResourceBusy)
    ⊎ (error_kind error ≡ Unsupported)

-- whether a file was replaced; after any other error than those, the result is that error
abbrev pub UnlessIrreplaceable : Error → Result Bool Error → Type 0
UnlessIrreplaceable error (Ok replaced) = (replaced ≡ false) × IsIrreplaceable error
UnlessIrreplaceable error (Err same) = (same ≡ error) × (IsIrreplaceable error → ⊥)

-- the call that gives a new file its permissions, if there are any
abbrev pub Allows : PathText → Option Permissions → List DiskCall → Type 0
Allows name None calls = calls ≡ []
Allows name (Some permissions) calls =
    (result : DoneOrError) × (calls ≡ allowing name permissions result ∷ [])

-- Calls that put these bytes into a new file of the name `new`, which has its permissions before
-- its first byte, and give it the name `name`. The result is whether that could be done.
pub data Replaces (name new : PathText) (permissions : Option Permissions) (bytes : Bytes)
    (calls : List DiskCall) (result : Result Bool Error) : Type 0 where
  not_created : (error : Error) → calls ≡ creating new (Err error) ∷ []
      → UnlessIrreplaceable error result → Replaces name new permissions bytes calls result
  not_written : (allows appends : List DiskCall) (error : Error) (removed : DoneOrError)
      → calls ≡ creating new (Ok tt) ∷ allows ++ appends ++ removing new removed ∷ []
      → Allows new permissions allows → AppendsAll new bytes appends (Err error)
      → result ≡ Err error → Replaces name new permissions bytes calls result
  not_renamed : (allows appends : List DiskCall) (error : Error) (removed : DoneOrError)
      → calls ≡ creating new (Ok tt) ∷ allows ++ appends
      ++ renaming new name (Err error) ∷ removing new removed ∷ []
      → Allows new permissions allows → AppendsAll new bytes appends (Ok tt)
      → UnlessIrreplaceable error result → Replaces name new permissions bytes calls result
  renamed : (allows appends : List DiskCall)
      → calls ≡ creating new (Ok tt) ∷ allows ++ appends ++ renaming new name (Ok tt) ∷ []
      → Allows new permissions allows → AppendsAll new bytes appends (Ok tt)
      → result ≡ Ok true → Replaces name new permissions bytes calls result

-- ---- a file that is given its bytes

-- what a new file has after the name of the file: a point, the mark of the run, and `.tmp`
abbrev pub new_ending : ℕ → PathText
new_ending mark = codes "." ++ (decimal mark ++ codes ".tmp")

abbrev pub new_name : PathText → ℕ → PathText
new_name name mark = name ++ new_ending mark

-- Calls that write these bytes over those of the file of this name.
pub data InPlace (name : PathText) (bytes : Bytes) (calls : List DiskCall) (result : DoneOrError) :
    Type 0 where
  not_opened : (error : Error) → calls ≡ emptying name (Err error) ∷ [] → result ≡ Err error
      → InPlace name bytes calls result
  opened : (appends : List DiskCall) → calls ≡ emptying name (Ok tt) ∷ appends
      → AppendsAll name bytes appends result → InPlace name bytes calls result

-- a result, if the file was replaced or an error came
abbrev pub IsEnd : Result Bool Error → DoneOrError → Type 0
IsEnd (Ok true) result = result ≡ Ok tt
IsEnd (Ok false) result = ⊥
IsEnd (Err error) result = result ≡ Err error

-- Calls that give the file of this name these bytes: a new file takes its place. If the run has no
-- mark, or no new file can take its place, it is written in place. If memory runs out for the new
-- name, no call is made.
pub data GivesBytes (mark : Option ℕ) (name : PathText) (permissions : Option Permissions)
    (bytes : Bytes) (calls : List DiskCall) (result : DoneOrError) : Type 0 where
  replaced : (number : ℕ) (end : Result Bool Error) → mark ≡ Some number
      → Replaces name (new_name name number) permissions bytes calls end → IsEnd end result
      → GivesBytes mark name permissions bytes calls result
  irreplaceable : (number : ℕ) (before after : List DiskCall) → mark ≡ Some number
      → calls ≡ before ++ after
      → Replaces name (new_name name number) permissions bytes before (Ok false)
      → InPlace name bytes after result → GivesBytes mark name permissions bytes calls result
  unmarked : mark ≡ None → InPlace name bytes calls result
      → GivesBytes mark name permissions bytes calls result
  no_memory : (error : Error) → calls ≡ [] → result ≡ Err error
      → error_kind error ≡ OutOfMemory → GivesBytes mark name permissions bytes calls result

-- After an error of a call that looks at a name: if it is one of these, the file is written in
-- place, and otherwise the result is that error.
abbrev pub InPlaceIf : Type 0 → PathText → Bytes → Error → List DiskCall → DoneOrError → Type 0
InPlaceIf These name bytes error calls result =
    (These × InPlace name bytes calls result)
    ⊎ ((These → ⊥) × (calls ≡ []) × (result ≡ Err error))

-- the file that a link leads to can't be found or replaced
abbrev pub LeadsNowhere : Error → Type 0
LeadsNowhere error = (error_kind error ≡ NotFound) ⊎ IsIrreplaceable error

-- Calls that write the file to which a link leads, by what there is under its name. If that is no
-- file, the link is written through.
abbrev pub GivesTarget : Option ℕ → PathText → PathText → Bytes → Result Kind Error
    → List DiskCall → DoneOrError → Type 0
GivesTarget mark link target bytes (Ok (File permissions)) calls result =
    GivesBytes mark target (Some permissions) bytes calls result
GivesTarget mark link target bytes (Ok _) calls result = InPlace link bytes calls result
GivesTarget mark link target bytes (Err error) calls result =
    InPlaceIf (LeadsNowhere error) link bytes error calls result

-- Calls that write the file to which a link leads, by its name.
abbrev pub GivesBehind : Option ℕ → PathText → Bytes → Result PathText Error
    → List DiskCall → DoneOrError → Type 0
GivesBehind mark link bytes (Ok target) calls result =
    (found : Result Kind Error) × (after : List DiskCall)
    × (calls ≡ following target found ∷ after)
    × GivesTarget mark link target bytes found after result
GivesBehind mark link bytes (Err error) calls result =
    InPlaceIf (LeadsNowhere error) link bytes error calls result

-- Calls that make these the bytes of the file of this name, by what there is under the name.
abbrev pub WritesFound : Option ℕ → PathText → Bytes → Result Kind Error → List DiskCall
    → DoneOrError → Type 0
WritesFound mark name bytes (Ok (File permissions)) calls result =
    GivesBytes mark name (Some permissions) bytes calls result
WritesFound mark name bytes (Ok Link) calls result =
    (target : Result PathText Error) × (after : List DiskCall)
    × (calls ≡ resolving name target ∷ after) × GivesBehind mark name bytes target after result
WritesFound mark name bytes (Ok Other) calls result = InPlace name bytes calls result
WritesFound mark name bytes (Err error) calls result =
    ((error_kind error ≡ NotFound) × GivesBytes mark name None bytes calls result)
    ⊎ ((error_kind error ≡ NotFound → ⊥)
    × InPlaceIf (IsIrreplaceable error) name bytes error calls result)

-- Calls that make these the bytes of the file of this name, in a run with this mark.
abbrev pub WritesMarked : Option ℕ → PathText → Bytes → List DiskCall → DoneOrError → Type 0
WritesMarked mark name bytes calls result =
    (found : Result Kind Error) × (after : List DiskCall) × (calls ≡ looking name found ∷ after)
    × WritesFound mark name bytes found after result

-- Calls that make these the bytes of the file of this name. The mark of the run is the random
-- number that the system gave before its first file.
abbrev pub WritesInRun : Option ℕ → Option ℕ → PathText → Bytes → List DiskCall → DoneOrError
    → Type 0
WritesInRun (Some number) mark name bytes calls result =
    (mark ≡ Some number) × WritesMarked mark name bytes calls result
WritesInRun None mark name bytes calls result =
    (after : List DiskCall) × (calls ≡ drawing mark ∷ after)
    × WritesMarked mark name bytes after result
