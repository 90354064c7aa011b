use Rattle.std.proofs.Common.{take}
use Rattle.dyndep_file.specs.Prelude.{IsTextOf}
use Rattle.dyndep_file.proofs.text.Dyndep.to_text.Given as goal

-- the text is that of the statements so far
abbrev pub invariant-loop-statement : goal.invariant-loop-statement
invariant-loop-statement l = IsTextOf (take l.statement-index l.statement-items) l.text
