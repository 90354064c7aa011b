-- What a reader of a line format has read and returns, given all bytes that it was fed. It does not
-- matter how they were cut into pieces.
use Rattle.std.specs.Prelude.{◌≡◌, List, Some, Result, Ok, Err}
use Rattle.ninja_text.specs.Bytes.{Bytes}
use Rattle.ninja_text.specs.Lines.{LogicalLine}
use Rattle.ninja_text.specs.LineReading.{LinesRead, HasLentAll}
use Rattle.ninja_text.specs.LineFormats.{LineFormat, AreTextsOfClasses}
use Rattle.ninja_text.specs.Failure.{ForFault}
use Rattle.ninja_text.specs.declared.failure.Failure.{Failure}

-- The lines have classes that lead to this state.
pub record AreReadTo {Class Value State : Type 0} (format : LineFormat Class Value)
    (leads : List Class → State → Type 0) (lent : List LogicalLine) (state : State) : Type 0 where
  pub classes : List Class
  pub texts : AreTextsOfClasses format lent classes
  pub led : leads classes state

-- The reader was fed these bytes in total and has returned no error. Their lines lead to its state.
pub record HasRead {Class Value State Refusal : Type 0} (format : LineFormat Class Value)
    (leads : List Class → State → Type 0) (bytes : Bytes) (r : LinesRead State Refusal)
    : Type 0 where
  pub lent : List LogicalLine
  pub has : HasLentAll bytes lent r
  pub read : AreReadTo format leads lent r.state

-- What `feed` returns and does, given all bytes fed, including this piece, if no earlier call
-- failed: the reader has read the bytes, or the error is in them, or an allocation failed.
abbrev pub Reads : {State Refusal : Type 0} → (Bytes → LinesRead State Refusal → Type 0)
    → (Bytes → Refusal → Type 0)
    → Bytes → Result Unit (Failure Refusal) → LinesRead State Refusal → Type 0
Reads has_read is_fault_in bytes (Ok u) new = has_read bytes new
Reads has_read is_fault_in bytes (Err failure) new =
    (new.failed ≡ Some failure) × ForFault (is_fault_in bytes) failure
