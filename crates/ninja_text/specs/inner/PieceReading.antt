-- How the reader of lines reads one piece.
use Rattle.std.specs.Prelude.{ℕ, List, ◌++◌, Result, Ok, Err}
use Rattle.ninja_text.specs.Lines.{LogicalLine}
use Rattle.ninja_text.specs.Cutting.{CutterState}
use Rattle.ninja_text.specs.LineReading.{Passes, RefusesWith, LeadTo, HasLent, HasFailureBehind}
use Rattle.ninja_text.specs.declared.failure.Failure.{Failure}
use Rattle.ninja_text.specs.declared.failure.Failure.TheVariants.{Memory, Fault}
use Rattle.ninja_text.specs.declared.fault.CutFault.{CutFault}

-- What reading a piece returns, and the cutter and the state after it.
abbrev pub ReadsPiece : {S F : Type 0} → Passes S → RefusesWith S F → (CutFault → F)
    → List ℕ → List LogicalLine → S → Result Unit (Failure F) → CutterState → S → Type 0
ReadsPiece passes refuses of_cutter bytes lent old (Ok u) cutter new =
    (more : List LogicalLine) × HasLent bytes (lent ++ more) cutter × LeadTo passes old more new
ReadsPiece passes refuses of_cutter bytes lent old (Err failure) cutter new =
    HasFailureBehind passes refuses of_cutter bytes lent old failure

-- the failure of the cutter as a failure of the reader
abbrev pub failure_of : {F : Type 0} → (CutFault → F) → Failure CutFault → Failure F
failure_of of_cutter Memory = Memory
failure_of of_cutter (Fault fault) = Fault (of_cutter fault)
