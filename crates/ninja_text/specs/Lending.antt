-- The state of a cutter after the line that it returned is given back.
use Rattle.std.specs.Prelude.{◌≡◌, false, List, ◌++◌}
use Rattle.std.specs.Borrow.{Fml, MutBor}
use Rattle.std.specs.Io.BufRead.{Rests}
use Rattle.ninja_text.specs.Bytes.{Bytes}
use Rattle.ninja_text.specs.Lines.{LogicalLine}
use Rattle.ninja_text.specs.Cutting.{CutterState, after_lending, lent_next, Cuts}
use Rattle.ninja_text.specs.contracts.cutter.LineCutter.{the_row}

-- The line that waited, if any, was returned after all earlier ones, and no line waits.
pub record AfterLending (old new : CutterState) : Type 0 where
  pub value : new ≡ after_lending old
  pub none_waits : new.waits ≡ false
  pub all : (taken : Bytes) (lent : List LogicalLine) → Cuts taken lent old →
      Cuts taken (lent ++ lent_next old) new

-- When the borrow of the line ends, the cutter is in the state after returning it.
abbrev pub EndsLent : MutBor CutterState → Fml
EndsLent c = Rests the_row c (λ new. AfterLending c.now new)
