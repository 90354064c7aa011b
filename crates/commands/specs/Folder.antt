-- The calls by which files are read, compared and written.
use Rattle.std.specs.Prelude.{◌≡◌, ◌⊎◌, ℕ, nat_lt, List, ◌∷◌, [], ◌++◌, length, Bool, true, false, Option, Some, option_map, Result, Ok, Err}
use Rattle.std.specs.declared.io.Error.{Error}
use Rattle.ninja_text.specs.Bytes.{Bytes, PathText}
use Rattle.ninja_text.specs.Failure.{ForFault}
use Rattle.ninja_text.specs.LineReading.{LinesRead}
use Rattle.ninja_text.specs.declared.failure.Failure.{Failure}

-- what was read of a file: its bytes, or those that it begins with, and whether it ended there
pub record FileRead : Type 0 where
  pub bytes : Bytes
  pub ended : Bool

-- all bytes of a file
abbrev pub whole : Bytes → FileRead
whole bytes = record { bytes = bytes; ended = true }

-- one call: the name of the file, the bytes that it is compared with or that are written, and the
-- result
pub data FileCall : Type 0 where
  reading : PathText → Result FileRead Error → FileCall
  comparing : PathText → Bytes → Bool → FileCall
  writing : PathText → Bytes → Result (Unit {0}) Error → FileCall

-- the bytes of a file of which at most this many were read: it ended if they are fewer
abbrev pub up_to : ℕ → Bytes → FileRead
up_to most bytes = record { bytes = bytes; ended = nat_lt (length bytes) most }

-- what a call read of at most this many bytes, which the value that it returns has, or its error
abbrev pub answer_of : {D : Type 0} → (D → Bytes) → ℕ → Result D Error → Result FileRead Error
answer_of bytes_in most (Ok document) = Ok (up_to most (bytes_in document))
answer_of bytes_in most (Err error) = Err error

-- these calls were made, in this order, and no other, if it is known which were made before
abbrev pub Adds : Option (List FileCall) → Option (List FileCall) → List FileCall → Type 0
Adds old new calls = new ≡ option_map (λ before. before ++ calls) old

-- calls were made of which this holds, and no other
abbrev pub MakesCalls : Option (List FileCall) → Option (List FileCall) → (List FileCall → Type 0)
    → Type 0
MakesCalls old new Holds = (calls : List FileCall) × Adds old new calls × Holds calls

-- ---- files that are read in pieces

-- what a reader is after a piece, by all bytes that it was given: it reads on, or it has failed
abbrev pub ReadsOn : {R : Type 0} → (Bytes → R → Type 0) → (Bytes → R → Type 0) → Bytes → Bool → R
    → Type 0
ReadsOn has_read has_failed bytes true reader = has_read bytes reader
ReadsOn has_read has_failed bytes false reader = has_failed bytes reader

-- a reader of lines has failed: memory ran out, or such a fault is in the bytes
abbrev pub HasFailed : {S F : Type 0} → (Bytes → F → Type 0) → Bytes → LinesRead S F → Type 0
HasFailed {F = F} IsFaultIn bytes reader =
    (failure : Failure F) × (reader.failed ≡ Some failure) × ForFault (IsFaultIn bytes) failure

-- a reader of lines that has failed leads to this result: the failure, as it is reported
abbrev pub StaysFailed : {S F G R : Type 0} → (Failure F → Failure G) → LinesRead S F
    → Result R (Failure G) → Type 0
StaysFailed {F = F} reported reader read =
    (failure : Failure F) → reader.failed ≡ Some failure → read ≡ Err (reported failure)

-- The reader was given what was read of a file: all bytes, or those up to a piece at which it has
-- failed.
abbrev pub WasGiven : {R : Type 0} → (Bytes → R → Type 0) → (Bytes → R → Type 0) → FileRead → R
    → Type 0
WasGiven has_read has_failed file reader =
    (has_read file.bytes reader × (file.ended ≡ true)) ⊎ has_failed file.bytes reader

-- The call gave the reader what it read of the file of this name, or returned an error.
abbrev pub GivesPieces : {R : Type 0} → (Bytes → R → Type 0) → (Bytes → R → Type 0) → PathText
    → Option (List FileCall) → Option (List FileCall) → Result Unit Error → R → Type 0
GivesPieces has_read has_failed name old new (Ok done) reader =
    (file : FileRead) × Adds old new (reading name (Ok file) ∷ [])
    × WasGiven has_read has_failed file reader
GivesPieces has_read has_failed name old new (Err error) reader =
    Adds old new (reading name (Err error) ∷ [])
