-- How the parts of a run follow one another: each continues with the value of the one before it,
-- and the first that stops ends the run.
use Rattle.std.specs.Prelude.{◌≡◌, ◌⊎◌, ⊤, ℕ, List, [], ◌∷◌, ◌++◌, Bool, true, Option, Some, None, option_map, find, zip, bytes_eq, Result, Ok, Err, codes}
use Rattle.std.specs.IoError.{error_kind}
use Rattle.std.specs.declared.io.Error.{Error}
use Rattle.std.specs.declared.io.ErrorKind.TheVariants.{OutOfMemory}
use Rattle.ninja_text.specs.Bytes.{Bytes, Text, PathText}
use Rattle.ninja_text.specs.declared.failure.Failure.{Failure}
use Rattle.ninja_text.specs.declared.failure.Failure.TheVariants.{Memory, Fault}
use Rattle.commands.specs.Folder.{FileCall, FileRead, reading, up_to, MakesCalls}
use Rattle.commands.specs.Locations.{nowhere}
use Rattle.commands.specs.declared.location.Location.{Location}

-- a file: its name, its bytes, and whether it is left alone if it has them already
pub record FileValue : Type 0 where
  pub name : PathText
  pub bytes : Bytes
  pub keeps : Bool

-- an error: what is reported, and its location
pub record ErrorValue : Type 0 where
  pub text : Text
  pub at : Location

-- the exit status of a run that fails, the message that says why, and the error's location
pub record LineValue : Type 0 where
  pub status : ℕ
  pub message : Text
  pub at : Location

-- what a run that succeeds leaves: its text for standard output, and the files to be written
pub record OutputValue : Type 0 where
  pub text : Text
  pub files : List FileValue

-- what a part of a run has led to: a value, or why the run stops
abbrev pub Outcome : Type 0 → Type 0
Outcome V = Result V (Failure LineValue)

-- what is said of a part of a run: by the calls that it makes, and by what it has led to
abbrev pub Part : Type 0 → Type 1
Part V = List FileCall → Outcome V → Type 0

-- ---- parts in turn

-- Two parts of a run in turn: the second continues with the value of the first, if the first does
-- not stop the run.
pub data InTurn {A B : Type 0} (First : Part A) (Second : A → Part B) (calls : List FileCall)
    (outcome : Outcome B) : Type 0 where
  goes_on : (value : A) (before after : List FileCall) → calls ≡ before ++ after →
      First before (Ok value) → Second value after outcome → InTurn First Second calls outcome
  stops : (stop : Failure LineValue) → First calls (Err stop) → outcome ≡ Err stop →
      InTurn First Second calls outcome

infixr 10 ◌>>=◌
abbrev pub ◌>>=◌ : {A B : Type 0} → Part A → (A → Part B) → Part B
first >>= second = InTurn first second

-- the calls that were made, and no other, make such a part
abbrev pub Runs : {V : Type 0} → Option (List FileCall) → Option (List FileCall) → Part V
    → Outcome V → Type 0
Runs old new Holds outcome = MakesCalls old new (λ calls. Holds calls outcome)

-- ---- parts that make no call

-- an error with this text that is there, and one that is nowhere
abbrev pub located : Text → Location → ErrorValue
located text at = record { text = text; at = at }

abbrev pub unlocated : Text → ErrorValue
unlocated text = located text nowhere

-- a run that fails with this status at an error, and one that is rejected
abbrev pub failed : ℕ → ErrorValue → LineValue
failed number error = record { status = number; message = error.text; at = error.at }

abbrev pub refusal : ErrorValue → LineValue
refusal error = failed 1 error

-- A part that makes no call: its value is one of these, or the error of a fault stops the run,
-- or memory runs out.
abbrev pub Returns : {V F : Type 0} → (V → Type 0) → (F → Type 0) → (F → ErrorValue) → Part V
Returns IsValue IsFault error calls (Ok value) = (calls ≡ []) × IsValue value
Returns IsValue IsFault error calls (Err Memory) = calls ≡ []
Returns {V} {F} IsValue IsFault error calls (Err (Fault stop)) =
    (calls ≡ []) × ((fault : F) × IsFault fault × (stop ≡ refusal (error fault)))

-- a part that makes no call, and has a value of which this holds
abbrev pub Comes : {V : Type 0} → (V → Type 0) → Part V
Comes Holds calls (Ok value) = (calls ≡ []) × Holds value
Comes Holds calls (Err stop) = ⊥

-- a part that makes no call and has this value, unless memory runs out
abbrev pub Done : {V : Type 0} → V → Part V
Done value = Returns (λ other. other ≡ value) (λ (none : ⊥). ⊥) (λ none. unlocated [])

-- what a run leaves that prints this text, and nothing else
abbrev pub printed : Text → OutputValue
printed text = record { text = text; files = [] }

-- the last part of a run, which prints this text
abbrev pub Prints : Text → Part OutputValue
Prints text = Done (printed text)

-- what a run leaves that has these files to be written, and prints nothing
abbrev pub written : List FileValue → OutputValue
written files = record { text = []; files = files }

-- the last part of a run, which leaves these files to be written
abbrev pub Writes : List FileValue → Part OutputValue
Writes files = Done (written files)

-- ---- parts for the elements of a list

-- Parts for these elements, one after another: each continues with the value of the one before it.
abbrev pub Each : {V X : Type 0} → (V → X → Part V) → V → List X → Part V
Each Next value [] = Comes (λ last. last ≡ value)
Each Next value (x ∷ xs) = do
  next ← Next value x
  Each Next next xs

-- ---- parts that read

-- The file of this name can't be read, and the run stops with its name; or memory runs out, before
-- the call or in it. A call that ran out of memory is never reported as a file that can't be read.
abbrev pub IsUnread : PathText → List FileCall → Failure LineValue → Type 0
IsUnread name calls Memory =
    (calls ≡ []) ⊎ ((error : Error) × (calls ≡ reading name (Err error) ∷ []))
IsUnread name calls (Fault stop) =
    ((error : Error) × (calls ≡ reading name (Err error) ∷ [])
    × (error_kind error ≡ OutOfMemory → ⊥))
    × (stop ≡ failed 3 (unlocated (codes "cannot read " ++ name)))

-- how many bytes of a document are read at most: one more than the longest document has
abbrev pub document_most : ℕ
document_most = 16777217

-- A part that reads the document of this name: its value is the document's bytes. If there are more
-- than the longest document has, they are the first of them, which is enough to reject it.
abbrev pub ReadsDocument : PathText → Part Bytes
ReadsDocument name calls (Ok bytes) = calls ≡ reading name (Ok (up_to document_most bytes)) ∷ []
ReadsDocument name calls (Err stop) = IsUnread name calls stop

-- a part that reads the file of this name, and whose value is one that follows from what it read
abbrev pub ReadsAs : {V : Type 0} → (FileRead → V → Type 0) → PathText → Part V
ReadsAs Follows name calls (Ok value) =
    (file : FileRead) × (calls ≡ reading name (Ok file) ∷ []) × Follows file value
ReadsAs Follows name calls (Err stop) = IsUnread name calls stop

-- The result of reading a file of lines follows from what was read of it. A file that has a value
-- was read to its end. A fault is in the bytes that were read, so every file that begins with them
-- has it; or the file ended there, and it is the fault of the whole.
abbrev pub IsResultOf : {V F : Type 0} → (Bytes → V → Type 0) → (Bytes → F → Type 0)
    → (Bytes → F → Type 0) → FileRead → Result V (Failure F) → Type 0
IsResultOf Means IsFaultIn IsFaultOf file (Ok value) = (file.ended ≡ true) × Means file.bytes value
IsResultOf Means IsFaultIn IsFaultOf file (Err Memory) = ⊤
IsResultOf Means IsFaultIn IsFaultOf file (Err (Fault fault)) =
    IsFaultIn file.bytes fault ⊎ ((file.ended ≡ true) × IsFaultOf file.bytes fault)

-- the value of a file that was read, or the error of its fault
abbrev pub ValueOf : {V F : Type 0} → (F → ErrorValue) → Result V (Failure F) → Part V
ValueOf error read = Returns (λ value. read ≡ Ok value) (λ fault. read ≡ Err (Fault fault)) error

-- a value that is known already, or a part that reads it
abbrev pub UnlessKnown : {V : Type 0} → Option V → Part V → Part V
UnlessKnown (Some value) Reads = Done value
UnlessKnown None Reads = Reads

-- the bytes of the first of these files that has the name
abbrev pub read_before : List (PathText × Bytes) → PathText → Option Bytes
read_before files name = option_map (λ file. file.1) (find (λ file. bytes_eq name file.0) files)

-- a part that reads one document more, after the first of these names were read: a document that
-- was listed before is not read again
abbrev pub ReadsNext : List PathText → List Bytes → PathText → Part (List Bytes)
ReadsNext names before name = do
  bytes ← UnlessKnown (read_before (zip names before) name) (ReadsDocument name)
  Done (before ++ bytes ∷ [])

-- a part that reads the documents of these names, one after another and each once
abbrev pub ReadsAll : List PathText → Part (List Bytes)
ReadsAll names = Each (ReadsNext names) [] names

-- a part that reads the file of a name, if there is one
abbrev pub ReadsIfNamed : {V : Type 0} → (PathText → Part V) → Option PathText → Part (Option V)
ReadsIfNamed Reads None = Done None
ReadsIfNamed Reads (Some name) = do
  value ← Reads name
  Done (Some value)

-- ---- failures

-- the value, as it is viewed
abbrev pub seen : {T V : Type 0} → (T → V) → Outcome T → Outcome V
seen view (Ok value) = Ok (view value)
seen view (Err stop) = Err stop

-- why the run stops at a failure: memory, or the error of the fault, if there was memory for its
-- message
abbrev pub Reports : {F : Type 0} → (F → ErrorValue) → Failure F → Failure LineValue → Type 0
Reports error Memory stop = stop ≡ Memory
Reports error (Fault fault) Memory = ⊤
Reports error (Fault fault) (Fault stop) = stop ≡ refusal (error fault)
