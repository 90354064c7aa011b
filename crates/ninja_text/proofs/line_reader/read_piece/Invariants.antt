use Rattle.std.proofs.Common.{◌≡◌, ℕ, ◌++◌, List, length, false}
use Rattle.ninja_text.specs.Lines.{LogicalLine}
use Rattle.ninja_text.specs.LineReading.{HasLent, LeadTo}
use Rattle.ninja_text.proofs.line_reader.read_piece.Given as goal

-- whatever came before: a beginning of the bytes has been read, and the rest is what is left of the piece
abbrev pub invariant-loop-rest : goal.invariant-loop-rest
invariant-loop-rest g l = record {
  waits_not : l.cutter.waits ≡ false;
  read : (bytes : List ℕ) (lent : List LogicalLine) → HasLent bytes lent l.initial.cutter
      → (front : List ℕ) × (more : List LogicalLine) × (front ++ l.rest ≡ bytes ++ l.piece) × HasLent front (lent ++ more) l.cutter
      × LeadTo g.S.LineState.passes l.initial.state more l.state;
}

abbrev pub decreases-loop-rest : goal.decreases-loop-rest
decreases-loop-rest g l = length l.rest
