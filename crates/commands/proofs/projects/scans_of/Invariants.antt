use Rattle.std.proofs.Common.{◌≡◌, take, map}
use Rattle.commands.specs.Prelude.{ReadTargetValue, lent_texts}
use Rattle.commands.proofs.projects.scans_of.Given as goal

-- the targets so far
abbrev pub invariant-loop-target : goal.invariant-loop-target
invariant-loop-target l = map (λ lent. lent_texts lent.items) l.scans.items ≡
    map (λ (target : ReadTargetValue). target.scans) (take l.target-index l.targets)
