-- What a reader of dyndep files returns, given all bytes that it was fed. It does not matter how
-- they were cut into pieces.
use Rattle.std.specs.Prelude.{◌≡◌, ◌⊎◌, List, [], Some, Result, Ok, Err}
use Rattle.ninja_text.specs.Bytes.{Bytes}
use Rattle.ninja_text.specs.LineReading.{LinesRead}
use Rattle.ninja_text.specs.LineFormats.{FaultyLine, FaultyEnd}
use Rattle.ninja_text.specs.FormatReading as lines
use Rattle.ninja_text.specs.Failure.{ForFault}
use Rattle.ninja_text.specs.declared.failure.Failure.{Failure}
use Rattle.ninja_text.specs.declared.failure.Failure.TheVariants.{Memory, Fault}
use Rattle.dyndep_file.specs.StatementValue.{StatementValue}
use Rattle.dyndep_file.specs.Classes.{DyndepClass}
use Rattle.dyndep_file.specs.Steps.{ProgressValue, run}
use Rattle.dyndep_file.specs.Reading.{dyndep_format, dyndep_faults, StandsFor, HasReadFault}
use Rattle.dyndep_file.specs.declared.fault.ReadFault.{ReadFault}
use Rattle.dyndep_file.specs.declared.fault.ReadFault.TheVariants.{AtLine, Io}
use Rattle.dyndep_file.specs.declared.fault.LineFault.TheVariants.{LineTooLong}
use Rattle.dyndep_file.specs.declared.progress.Stage.TheVariants.{BeforeVersion}

-- Lines of these classes lead to these statements so far.
abbrev pub LeadToStatements : List DyndepClass → ProgressValue → Type 0
LeadToStatements classes progress = run BeforeVersion [] classes ≡ Some progress

-- the view of a reader: its cutter of lines, the statements so far, and the failure it returned, if
-- any
abbrev pub DyndepReaderState : Type 0
DyndepReaderState = LinesRead ProgressValue ReadFault

-- The reader was fed these bytes in total and has returned no error.
abbrev pub HasReadDyndep : Bytes → DyndepReaderState → Type 0
HasReadDyndep bytes r = lines.HasRead dyndep_format LeadToStatements bytes r

-- The error is in these bytes: it is that of the first faulty line, or the bytes after the last
-- line reach the limit of a line. Every text that begins with these bytes has this error.
abbrev pub IsReadFaultIn : Bytes → ReadFault → Type 0
IsReadFaultIn bytes (AtLine line fault) =
    FaultyLine dyndep_format dyndep_faults bytes line fault
    ⊎ (FaultyEnd dyndep_format dyndep_faults bytes line fault × (fault ≡ LineTooLong))
IsReadFaultIn bytes Io = ⊥

-- An allocation failed, or the error is in these bytes.
abbrev pub IsReadFailureIn : Bytes → Failure ReadFault → Type 0
IsReadFailureIn bytes failure = ForFault (IsReadFaultIn bytes) failure

-- The text has this error, in its first faulty line or at its end.
abbrev pub IsReadFaultOf : Bytes → ReadFault → Type 0
IsReadFaultOf bytes (AtLine line fault) = HasReadFault bytes (record { line = line; fault = fault })
IsReadFaultOf bytes Io = ⊥

-- What `feed` returns and does, given all bytes fed, including this piece, if no earlier call
-- failed: the reader has read the bytes, or the error is in them, or an allocation failed.
abbrev pub FeedsDyndep : Bytes → Result Unit (Failure ReadFault) → DyndepReaderState → Type 0
FeedsDyndep bytes result new = lines.Reads HasReadDyndep IsReadFaultIn bytes result new

-- No line of the bytes is faulty, and their end has this error.
abbrev pub IsFaultAtEnd : Bytes → Failure ReadFault → Type 0
IsFaultAtEnd bytes (Fault (AtLine line fault)) =
    FaultyEnd dyndep_format dyndep_faults bytes line fault
IsFaultAtEnd bytes (Fault Io) = ⊥
IsFaultAtEnd bytes Memory = ⊥

-- What `finish` returns, given all bytes fed, if no earlier call failed: statements that the bytes
-- stand for, or the error at their end.
abbrev pub EndsDyndepFile : Bytes → Result (List StatementValue) (Failure ReadFault) → Type 0
EndsDyndepFile bytes (Ok statements) = StandsFor bytes statements
EndsDyndepFile bytes (Err failure) = IsFaultAtEnd bytes failure
