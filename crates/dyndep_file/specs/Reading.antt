-- Which statements a text stands for as a dyndep file, and which error it has otherwise.
use Rattle.std.specs.Prelude.{◌≡◌, ℕ, ◌<◌, ◌≤◌, false, List, [], length, Some}
use Rattle.std.specs.List.{list_any}
use Rattle.ninja_text.specs.Bytes.{Bytes}
use Rattle.ninja_text.specs.Lines.{line_limit}
use Rattle.ninja_text.specs.LineFormats.{LineFormat, LineFaults}
use Rattle.ninja_text.specs.LineFormats as lines
use Rattle.dyndep_file.specs.StatementValue.{StatementValue}
use Rattle.dyndep_file.specs.Classes.{DyndepClass, IsDyndepLine}
use Rattle.dyndep_file.specs.Grammar.{IsDyndepFile}
use Rattle.dyndep_file.specs.Faults.{stage_after, line_fault, is_version}
use Rattle.dyndep_file.specs.declared.fault.LineFault.{LineFault}
use Rattle.dyndep_file.specs.declared.fault.LineFault.TheVariants.{LineTooLong, Truncated, NoVersion}

-- Dyndep files as a line format.
abbrev pub dyndep_format : LineFormat DyndepClass (List StatementValue)
dyndep_format = record { text_is_of = IsDyndepLine; grammar = IsDyndepFile }

-- The text stands for these statements: it consists of lines, with no bytes left over, and the
-- lines are a dyndep file with these statements.
abbrev pub StandsFor : Bytes → List StatementValue → Type 0
StandsFor bytes statements = lines.StandsForValue dyndep_format bytes statements

-- The text stands for these statements, and for no others.
pub record StandsForOnly (bytes : Bytes) (statements : List StatementValue) : Type 0 where
  pub stands : StandsFor bytes statements
  pub only : (others : List StatementValue) → StandsFor bytes others → others ≡ statements

-- an error, and the number of its line
pub record FaultAt : Type 0 where
  pub line : ℕ
  pub fault : LineFault

-- The error at the end of a text without a faulty line, given the bytes after its last line: they
-- reach the limit of a line, or they are fewer but not empty, or they are empty and there is no
-- version line.
abbrev pub IsEndFault : Bytes → List DyndepClass → LineFault → Type 0
IsEndFault rest classes LineTooLong = line_limit ≤ length rest
IsEndFault rest classes Truncated = (0 < length rest) × (length rest < line_limit)
IsEndFault rest classes NoVersion = (rest ≡ []) × (list_any is_version classes ≡ false)
IsEndFault rest classes other = ⊥

-- The errors of a line are in the tables of `Faults.antt`.
abbrev pub dyndep_faults : LineFaults DyndepClass LineFault
dyndep_faults = record {
  of_line = λ classes line fault. line_fault (stage_after classes) line ≡ Some fault;
  of_end = λ classes rest fault. IsEndFault rest classes fault;
}

-- The text has this error, in its first faulty line or at its end.
abbrev pub HasReadFault : Bytes → FaultAt → Type 0
HasReadFault bytes found = lines.HasFault dyndep_format dyndep_faults bytes found.line found.fault
