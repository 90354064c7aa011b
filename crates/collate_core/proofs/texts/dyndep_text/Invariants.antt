use Rattle.std.proofs.Common.{take, map, All}
use Rattle.collate_core.specs.Prelude.{IsTextOf, tasks_of, statement_of, HasSpelled}
use Rattle.collate_core.proofs.texts.dyndep_text.Given as goal

-- the text is that of the statements of the objects so far
abbrev pub invariant-loop-index : goal.invariant-loop-index
invariant-loop-index l =
    record {
      text : IsTextOf (map statement_of (take l.index (tasks_of l.table))) l.text;
      spelled : All HasSpelled (map statement_of (take l.index (tasks_of l.table)));
    }
