-- Files that are passed in memory, and what calls read of them.
use Rattle.std.specs.Prelude.{◌≡◌, ⊤, List, [], ◌∷◌, length, take, Bool, true, false, bytes_eq, if◌then◌else◌, Option, Some, None, Result, Ok, Err}
use Rattle.std.specs.IoError.{error_kind}
use Rattle.std.specs.declared.io.Error.{Error}
use Rattle.std.specs.declared.io.ErrorKind.TheVariants.{OutOfMemory}
use Rattle.ninja_text.specs.Bytes.{Bytes, PathText}
use Rattle.commands.specs.Folder.{FileCall, FileRead, reading, comparing, writing}

-- a file's name and bytes
pub record GivenFile : Type 0 where
  pub name : PathText
  pub bytes : Bytes

-- the bytes of the first file with this name
abbrev pub bytes_named : List GivenFile → PathText → Option Bytes
bytes_named [] name = None
bytes_named (file ∷ files) name =
    if bytes_eq file.name name then Some file.bytes else bytes_named files name

-- the file exists and has exactly these bytes
abbrev pub has_bytes : Option Bytes → Bytes → Bool
has_bytes None bytes = false
has_bytes (Some found) bytes = bytes_eq found bytes

-- The file exists. What was read is the beginning of its bytes, or all of them if the file ended
-- there.
abbrev pub IsReadOf : Option Bytes → FileRead → Type 0
IsReadOf None file = ⊥
IsReadOf (Some bytes) file =
    (take (length file.bytes) bytes ≡ file.bytes) × (file.ended ≡ true → file.bytes ≡ bytes)

-- What a call returns that reads a file: what it read, or an error if and only if the file does not
-- exist. If memory runs out, the call returns that error, whether the file exists or not.
abbrev pub Gets : Option Bytes → Result FileRead Error → Type 0
Gets found (Ok file) = IsReadOf found file
Gets found (Err error) = (error_kind error ≡ OutOfMemory → ⊥) → found ≡ None

-- The call returns what these files contain. Writing always fails.
abbrev pub IsCallOf : List GivenFile → FileCall → Type 0
IsCallOf files (reading name answer) = Gets (bytes_named files name) answer
IsCallOf files (comparing name bytes same) = same ≡ has_bytes (bytes_named files name) bytes
IsCallOf files (writing name bytes (Ok done)) = ⊥
IsCallOf files (writing name bytes (Err error)) = ⊤
