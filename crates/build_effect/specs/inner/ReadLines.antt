-- What one line does to a reader of edge lists.
use Rattle.std.specs.Prelude.{◌≡◌, Some}
use Rattle.ninja_text.specs.Lines.{LogicalLine}
use Rattle.ninja_text.specs.declared.fault.CutFault.{CutFault}
use Rattle.ninja_text.specs.declared.fault.CutFault.TheVariants as cut
use Rattle.build_effect.specs.ListingLines.{ListingClass}
use Rattle.build_effect.specs.ListingSteps.{ListingValue}
use Rattle.build_effect.specs.inner.ListingWalk.{step, FindsClass, text_cause}
use Rattle.build_effect.specs.declared.fault.LineCause.TheVariants.{LineTooLong, Truncated}
use Rattle.build_effect.specs.declared.fault.LineFault.{LineFault}

-- The line passes and leads to the new edges.
abbrev pub PassesLine : ListingValue → LogicalLine → ListingValue → Type 0
PassesLine old line new =
    (c : ListingClass) × FindsClass line.text line.comment c
    × (step old.binding old.edges c ≡ Some new)

-- The line is rejected with this error.
abbrev pub RefusesLine : ListingValue → LogicalLine → LineFault → Type 0
RefusesLine old line fault =
    (fault.line ≡ line.number)
    × (text_cause old.binding line.text line.comment ≡ Some fault.cause)

-- the error of the cutter as an error of the reader
abbrev pub fault_of_cutter : CutFault → LineFault
fault_of_cutter (cut.LineTooLong line) = record { line = line; cause = LineTooLong }
fault_of_cutter (cut.Truncated line) = record { line = line; cause = Truncated }
