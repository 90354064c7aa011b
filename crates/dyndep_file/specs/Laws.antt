-- Laws: facts about the definitions alone.
use Rattle.std.specs.Prelude.{◌≡◌, ℕ, List, ◌∷◌, ◌++◌, length, All, Some, None, ◌⊎◌}
use Rattle.ninja_text.specs.Bytes.{Bytes}
use Rattle.ninja_text.specs.Escapes.{IsWritable}
use Rattle.dyndep_file.specs.StatementValue.{StatementValue}
use Rattle.dyndep_file.specs.WriteFaults.{paths_of, statement_fault, write_fault}
use Rattle.dyndep_file.specs.Reading.{StandsFor, FaultAt, HasReadFault}
use Rattle.dyndep_file.specs.Reader.{DyndepReaderState, HasReadDyndep, IsReadFaultIn}
use Rattle.dyndep_file.specs.ReadingAll.{IsUnrefused}
use Rattle.dyndep_file.specs.declared.fault.LineFault.{LineFault}
use Rattle.dyndep_file.specs.declared.fault.ReadFault.TheVariants.{AtLine}
use Rattle.dyndep_file.specs.declared.fault.WriteFault.{WriteFault}
use Rattle.dyndep_file.specs.declared.fault.WriteFault.TheVariants.{StatementTooLong}

-- A text stands for at most one list of statements.
abbrev pub OneList : Type 0
OneList = (bytes : Bytes) (statements others : List StatementValue)
    → StandsFor bytes statements → StandsFor bytes others → statements ≡ others

-- A text that stands for a list of statements has no error.
abbrev pub NotBoth : Type 0
NotBoth = (bytes : Bytes) (statements : List StatementValue) (found : FaultAt)
    → StandsFor bytes statements → HasReadFault bytes found → ⊥

-- A text stands for a list of statements, or has an error.
abbrev pub OneOfBoth : Type 0
OneOfBoth = (bytes : Bytes)
    → ((statements : List StatementValue) × StandsFor bytes statements)
    ⊎ ((found : FaultAt) × HasReadFault bytes found)

-- A text has at most one error, at one line.
abbrev pub OneReadFault : Type 0
OneReadFault = (bytes : Bytes) (found other : FaultAt)
    → HasReadFault bytes found → HasReadFault bytes other → found ≡ other

-- If a reader has returned no error, no line of the bytes fed to it is faulty or too long.
abbrev pub GoesOnUnrefused : Type 0
GoesOnUnrefused = (bytes : Bytes) (reader : DyndepReaderState) → HasReadDyndep bytes reader
    → IsUnrefused bytes

-- An error in these bytes is the error of every text that begins with them.
abbrev pub FaultStays : Type 0
FaultStays = (bytes more : Bytes) (line : ℕ) (fault : LineFault)
    → IsReadFaultIn bytes (AtLine line fault)
    → HasReadFault (bytes ++ more) (record { line = line; fault = fault })

-- If all paths of the statements can be escaped, the only error they can have is a build line that
-- is too long.
abbrev pub OnlyTooLong : Type 0
OnlyTooLong = (statements : List StatementValue) (fault : WriteFault)
    → All (λ s. All IsWritable (paths_of s)) statements → write_fault statements ≡ Some fault
    → (index : ℕ) × (fault ≡ StatementTooLong index)

-- If all paths of one statement can be escaped, the only error it can have is a build line that is
-- too long.
abbrev pub TooLongIfWritable : Type 0
TooLongIfWritable = (index : ℕ) (s : StatementValue) (fault : WriteFault)
    → All IsWritable (paths_of s) → statement_fault index s ≡ Some fault
    → fault ≡ StatementTooLong index

-- The error of the first statement that has one is the error of the list.
abbrev pub FirstFault : Type 0
FirstFault = (before : List StatementValue) (s : StatementValue) (after : List StatementValue)
    (fault : WriteFault) → write_fault before ≡ None
    → statement_fault (length before) s ≡ Some fault
    → write_fault (before ++ s ∷ after) ≡ Some fault
