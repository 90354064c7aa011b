-- How a file is read.
use Rattle.std.specs.Prelude.{◌≡◌, ◌⊎◌, ℕ, ◌-◌, ◌^◌, ◌≤◌, List, [], ◌∷◌, ◌++◌, length, map, Bool, true, false, Result, Ok, Err}
use Rattle.std.specs.Global.{Vec}
use Rattle.std.specs.List.{All, flat_map}
use Rattle.std.specs.IoError.{error_kind}
use Rattle.std.specs.declared.io.Error.{Error}
use Rattle.std.specs.declared.io.ErrorKind.TheVariants.{Interrupted, OutOfMemory}
use Rattle.system_files.specs.declared.disk.Kind.{Kind}
use Rattle.system_files.specs.declared.disk.Kind.TheVariants.{File}
use Rattle.system_files.specs.Disk.{Bytes, PathText, DiskCall, following, opening, getting}

-- what a function returns, with the bytes of a vector
abbrev pub seen_read : Result (Vec ℕ) Error → Result Bytes Error
seen_read (Ok bytes) = Ok bytes.items
seen_read (Err error) = Err error

-- the bytes that a call read
abbrev pub got : Result Bytes Error → Bytes
got (Ok bytes) = bytes
got (Err error) = []

-- The file was not at its end, or a signal interrupted the call: reading continues.
abbrev pub ReadsFurther : Result Bytes Error → Type 0
ReadsFurther (Ok bytes) = bytes ≡ [] → ⊥
ReadsFurther (Err error) = error_kind error ≡ Interrupted

-- Calls that read these bytes of the open file of this name, piece by piece. Reading continues
-- after each of them.
pub record GetsBytes (name : PathText) (calls : List DiskCall) (bytes : Bytes) : Type 0 where
  pub pieces : List (Result Bytes Error)
  pub calls_are : calls ≡ map (getting name) pieces
  pub bytes_are : bytes ≡ flat_map got pieces
  pub go_on : All ReadsFurther pieces

-- calls that read these bytes, and one more call with this result
abbrev pub GetsUpTo : PathText → List DiskCall → Bytes → Result Bytes Error → Type 0
GetsUpTo name calls bytes last =
    (before : List DiskCall) × GetsBytes name before bytes
    × (calls ≡ before ++ getting name last ∷ [])

-- calls that read all bytes of the file, up to its end
abbrev pub GetsAll : PathText → List DiskCall → Bytes → Type 0
GetsAll name calls bytes = GetsUpTo name calls bytes (Ok [])

-- The calls read some bytes, and the last of them failed with this error, and not by a signal; or
-- there were 2^64 - 1 calls.
abbrev pub GetsUntil : PathText → List DiskCall → Error → Type 0
GetsUntil name calls error =
    ((bytes : Bytes) × GetsUpTo name calls bytes (Err error)
    × (error_kind error ≡ Interrupted → ⊥))
    ⊎ ((bytes : Bytes) × GetsBytes name calls bytes × (2 ^ 64 - 1 ≤ length calls))

-- Calls that open the file of this name to read it, and calls of which this holds if they succeed.
abbrev pub Opens : {V : Type 0} → (List DiskCall → Result V Error → Type 0) → PathText
    → List DiskCall → Result V Error → Type 0
Opens Reads name calls result =
    ((error : Error) × (calls ≡ opening name (Err error) ∷ []) × (result ≡ Err error))
    ⊎ ((after : List DiskCall) × (calls ≡ opening name (Ok tt) ∷ after) × Reads after result)

-- Calls that read at most this many bytes of the open file of this name: all of them, or just as
-- many. An error is that of the system, or that memory ran out.
abbrev pub ReadsUpTo : ℕ → PathText → List DiskCall → Result Bytes Error → Type 0
ReadsUpTo most name calls (Ok bytes) =
    (length bytes ≤ most)
    × (GetsAll name calls bytes ⊎ (GetsBytes name calls bytes × (length bytes ≡ most)))
ReadsUpTo most name calls (Err error) =
    GetsUntil name calls error
    ⊎ ((bytes : Bytes) × GetsBytes name calls bytes × (error_kind error ≡ OutOfMemory))

-- Calls that compare an open file with these bytes: it has them; or it begins otherwise, or has
-- only a beginning of them.
abbrev pub Compares : Bytes → PathText → List DiskCall → Result Bool Error → Type 0
Compares bytes name calls (Ok true) = GetsAll name calls bytes
Compares bytes name calls (Ok false) =
    ((begun : Bytes) × GetsBytes name calls begun × ((rest : Bytes) → bytes ≡ begun ++ rest → ⊥))
    ⊎ ((all : Bytes) × GetsAll name calls all × (all ≡ bytes → ⊥))
Compares bytes name calls (Err error) = GetsUntil name calls error

-- What there is under a name leads to this. Only a regular file is opened.
abbrev pub ComparesFound : Bytes → PathText → Result Kind Error → List DiskCall
    → Result Bool Error → Type 0
ComparesFound bytes name (Ok (File permissions)) calls result =
    Opens (Compares bytes name) name calls result
ComparesFound bytes name (Ok _) calls result = (calls ≡ []) × (result ≡ Ok false)
ComparesFound bytes name (Err error) calls result = (calls ≡ []) × (result ≡ Err error)

-- Calls that return whether the file of this name has these bytes.
abbrev pub HasBytes : Bytes → PathText → List DiskCall → Result Bool Error → Type 0
HasBytes bytes name calls result =
    (found : Result Kind Error) × (after : List DiskCall) × (calls ≡ following name found ∷ after)
    × ComparesFound bytes name found after result
