-- The view of a cutter, and the invariant of its fields.
use Rattle.std.specs.Prelude.{◌≤◌, ℕ, length}
use Rattle.ninja_text.specs.Bytes.{Bytes}
use Rattle.ninja_text.specs.Lines.{line_limit}
use Rattle.ninja_text.specs.Phases.{bytes_in, waits_in, failed_in, PhaseFits}
use Rattle.ninja_text.specs.Cutting.{CutterState}
use Rattle.ninja_text.specs.declared.cutter.LineCutter.TheInside.{Inside}
use Rattle.ninja_text.specs.declared.cutter.Phase.{Phase}

-- the view of a cutter with this phase, these bytes in its buffer and this line number
abbrev pub state_in : Phase → Bytes → ℕ → CutterState
state_in phase bytes number = record {
  number = number;
  bytes = bytes_in phase bytes;
  waits = waits_in phase;
  failed = failed_in phase;
}

abbrev pub state_of : Inside → CutterState
state_of c = state_in c.phase c.buffer.items c.number

-- The buffer is never longer than a line may be, and it fits the phase.
pub record IsKept (c : Inside) : Type 0 where
  pub bound : length c.buffer.items ≤ line_limit
  pub fits : PhaseFits c.phase c.buffer.items
