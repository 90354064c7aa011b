-- Reading a dyndep file to the end of a reader: which calls are made, and what is returned.
use Rattle.std.specs.Prelude.{◌≡◌, ℕ, ◌<◌, ◌≤◌, ◌-◌, ◌^◌, Bool, true, false, List, [], ◌∷◌, ◌++◌, length, take, Option, Result, Ok, Err}
use Rattle.std.specs.List.{flat_map}
use Rattle.std.specs.Io.KnownBytes.{Consumes, IsAtEnd}
use Rattle.std.specs.declared.io.Error.{Error}
use Rattle.ninja_text.specs.Bytes.{Bytes}
use Rattle.ninja_text.specs.Counting.{held, failures, Call, Counts}
use Rattle.ninja_text.specs.declared.counting.Counted.{Counted}
use Rattle.ninja_text.specs.declared.failure.Failure.{Failure}
use Rattle.ninja_text.specs.declared.failure.Failure.TheVariants.{Fault}
use Rattle.dyndep_file.specs.StatementValue.{StatementValue}
use Rattle.dyndep_file.specs.Reader.{IsReadFaultIn, IsReadFailureIn, EndsDyndepFile}
use Rattle.dyndep_file.specs.declared.fault.LineFault.{LineFault}
use Rattle.dyndep_file.specs.declared.fault.ReadFault.{ReadFault}
use Rattle.dyndep_file.specs.declared.fault.ReadFault.TheVariants.{AtLine, Io}

-- The bytes contain no error so far: no complete line is faulty, and the bytes after the last line
-- end are fewer than the limit of a line. More bytes may follow.
abbrev pub IsUnrefused : Bytes → Type 0
IsUnrefused bytes = (line : ℕ) (fault : LineFault) → IsReadFaultIn bytes (AtLine line fault) → ⊥

-- the length of the buffer that is passed to each call
abbrev pub buffer_len : ℕ
buffer_len = 4096

-- a call that read bytes: the reader after it, the buffer, and the number of bytes read into it
pub record ReadTurn (R : Type 0) : Type 0 where
  pub reader : R
  pub buffer : Bytes
  pub count : ℕ

-- the bytes that a call read
abbrev pub bytes_of : {R : Type 0} → ReadTurn R → Bytes
bytes_of turn = take turn.count turn.buffer

-- the bytes that calls read, one call after another
abbrev pub bytes_read : {R : Type 0} → List (ReadTurn R) → Bytes
bytes_read turns = flat_map bytes_of turns

-- The reader was called with a buffer of this length, and read at least one byte into it.
pub record GivesSome {R : Type 0} (reads : Call R) (reader : R) (turn : ReadTurn R) : Type 0 where
  pub some : 0 < turn.count
  pub within : turn.count ≤ buffer_len
  pub buffer : length turn.buffer ≡ buffer_len
  pub call : reads reader turn.reader (Ok turn.count) turn.buffer

-- Calls lead from `reader` to `last`, one after another, and each reads at least one byte.
abbrev pub ReadsInTurn : {R : Type 0} → Call R → R → List (ReadTurn R) → R → Type 0
ReadsInTurn reads reader [] last = reader ≡ last
ReadsInTurn reads reader (turn ∷ turns) last =
    GivesSome reads reader turn × ReadsInTurn reads turn.reader turns last

-- The call after these, if one was made: the reader was at its end, or it failed, or it returned
-- bytes that were rejected.
pub data LastCall (R : Type 0) : Type 0 where
  AtEnd : LastCall R
  Failed : LastCall R
  Refused : ReadTurn R → LastCall R
  NotMade : LastCall R

-- the bytes that the last call read
abbrev pub last_bytes : {R : Type 0} → LastCall R → Bytes
last_bytes AtEnd = []
last_bytes Failed = []
last_bytes (Refused turn) = bytes_of turn
last_bytes NotMade = []

-- whether the last call failed
abbrev pub has_failed : {R : Type 0} → LastCall R → Bool
has_failed AtEnd = false
has_failed Failed = true
has_failed (Refused turn) = false
has_failed NotMade = false

-- The last call led from `before` to `after` and had this result.
abbrev pub IsLastCall : {R : Type 0} → Call R → R → R → LastCall R → Type 0
IsLastCall reads before after AtEnd =
    (buffer : Bytes) × (length buffer ≡ buffer_len) × reads before after (Ok 0) buffer
IsLastCall reads before after Failed =
    (buffer : Bytes) × (error : Error) × (length buffer ≡ buffer_len)
    × reads before after (Err error) buffer
IsLastCall reads before after (Refused turn) = GivesSome reads before turn × (turn.reader ≡ after)
IsLastCall reads before after NotMade = before ≡ after

-- what reading a dyndep file returns
abbrev pub Answer : Type 0
Answer = Result (List StatementValue) (Failure ReadFault)

-- What is returned, given the bytes read before the last call, and the last call. At the end of the
-- reader it is the result of `finish`, after a failed call `Io`, and after rejected bytes their
-- error or `Memory`. If no last call was made, at least 2^64 - 1 bytes were read, and it is `Io`.
abbrev pub AnswersLastCall : {R : Type 0} → Bytes → LastCall R → Answer → Type 0
AnswersLastCall front AtEnd result = EndsDyndepFile front result
AnswersLastCall front Failed result = result ≡ Err (Fault Io)
AnswersLastCall front (Refused turn) result =
    (failure : Failure ReadFault) × IsReadFailureIn (front ++ bytes_of turn) failure
    × (result ≡ Err failure)
AnswersLastCall front NotMade result = (2 ^ 64 - 1 ≤ length front) × (result ≡ Err (Fault Io))

-- The reader was called any number of times, and the bytes were not rejected. At most one more call
-- followed. The result is the one for these bytes and the last call.
pub record IsReadFrom {R : Type 0} (remaining : R → Option Bytes) (reads : Call R)
    (old new : Counted R) (result : Answer) : Type 0 where
  pub turns : List (ReadTurn R)
  pub before : R
  pub last : LastCall R
  pub in_turn : ReadsInTurn reads (held old) turns before
  pub ended : IsLastCall reads before (held new) last
  pub unrefused : IsUnrefused (bytes_read turns)
  pub answer : AnswersLastCall (bytes_read turns) last result
  pub count : Counts (has_failed last) (failures old) (failures new)
  -- if it is known which bytes the reader has left, the calls consumed exactly what they read
  pub consumed : Consumes (remaining (held old)) (remaining (held new))
      (bytes_read turns ++ last_bytes last)
  pub at_end : last ≡ AtEnd → IsAtEnd (remaining (held new))
