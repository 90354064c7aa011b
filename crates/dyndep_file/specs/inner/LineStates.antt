-- What a line does to the statements so far, in the form that the trait `LineState` of `ninja_text`
-- needs, and what is returned at the end.
use Rattle.std.specs.Prelude.{ℕ, List, Result, Ok, Err}
use Rattle.ninja_text.specs.Lines.{LogicalLine}
use Rattle.ninja_text.specs.declared.failure.Failure.{Failure}
use Rattle.ninja_text.specs.declared.failure.Failure.TheVariants.{Fault}
use Rattle.ninja_text.specs.declared.fault.CutFault.{CutFault}
use Rattle.ninja_text.specs.declared.fault.CutFault.TheVariants as cut
use Rattle.dyndep_file.specs.StatementValue.{StatementValue}
use Rattle.dyndep_file.specs.Steps.{ProgressValue}
use Rattle.dyndep_file.specs.inner.LineReading.{ReadsLine}
use Rattle.dyndep_file.specs.declared.fault.ReadFault.{ReadFault}
use Rattle.dyndep_file.specs.declared.fault.ReadFault.TheVariants.{AtLine}
use Rattle.dyndep_file.specs.declared.fault.LineFault.TheVariants.{LineTooLong, Truncated, NoVersion}
use Rattle.dyndep_file.specs.declared.progress.Stage.{Stage}
use Rattle.dyndep_file.specs.declared.progress.Stage.TheVariants.{BeforeVersion, NoneOpen, Open}

-- The line passes and leads to the new statements.
abbrev pub PassesLine : ProgressValue → LogicalLine → ProgressValue → Type 0
PassesLine old line new = ReadsLine old line (Ok tt) new

-- The line is rejected with this error.
abbrev pub RefusesLine : ProgressValue → LogicalLine → ReadFault → Type 0
RefusesLine old line fault = ReadsLine old line (Err (Fault fault)) old

-- the error of the cutter as an error of the reader
abbrev pub fault_of_cutter : CutFault → ReadFault
fault_of_cutter (cut.LineTooLong line) = AtLine line LineTooLong
fault_of_cutter (cut.Truncated line) = AtLine line Truncated

-- what is returned after all lines: the statements, or `NoVersion` with this line number if there
-- was no version line
abbrev pub answer_at_end : Stage → List StatementValue → ℕ
    → Result (List StatementValue) (Failure ReadFault)
answer_at_end BeforeVersion statements line = Err (Fault (AtLine line NoVersion))
answer_at_end NoneOpen statements line = Ok statements
answer_at_end Open statements line = Ok statements
