use Rattle.std.proofs.Common.{[], drop, zip}
use Rattle.commands.specs.Prelude.{Outcome, AllEdgesPass}
use Rattle.commands.proofs.projects.all_pass.Given as goal

-- what the others lead to, all lead to
abbrev pub invariant-loop-index : goal.invariant-loop-index
invariant-loop-index l = (s : Outcome (Unit {0})) → AllEdgesPass l.index (drop l.index (zip l.targets l.outs)) [] s → AllEdgesPass 0 (zip l.targets l.outs) [] s
