-- The view of a line, and what `next_line` returns.
use Rattle.std.specs.Prelude.{◌≡◌, true, false, Option, Some, None, Result, Ok, Err}
use Rattle.ninja_text.specs.Lines.{LogicalLine}
use Rattle.ninja_text.specs.Cutting.{CutterState, waiting_line}
use Rattle.ninja_text.specs.declared.cutter.Line.{Line}
use Rattle.ninja_text.specs.declared.fault.CutFault.{CutFault}
use Rattle.ninja_text.specs.declared.fault.CutFault.TheVariants.{LineTooLong}

-- the view of a `Line`
abbrev pub seen_line : Line → LogicalLine
seen_line line = record { text = line.text.now; number = line.number; comment = line.is_comment }

-- What `next_line` returns: the line that waits, None if no line waits, or `LineTooLong` if the
-- cutter has failed.
abbrev pub Lends : CutterState → Result (Option Line) CutFault → Type 0
Lends h (Ok (Some line)) = (h.failed ≡ false) × (h.waits ≡ true) × (seen_line line ≡ waiting_line h)
Lends h (Ok None) = (h.failed ≡ false) × (h.waits ≡ false)
Lends h (Err fault) = (h.failed ≡ true) × (fault ≡ LineTooLong h.number)
