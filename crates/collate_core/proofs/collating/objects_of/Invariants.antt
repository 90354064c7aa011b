use Rattle.std.proofs.Common.{◌≡◌, map, take}
use Rattle.collate_core.proofs.collating.objects_of.Given as goal

-- the objects so far
abbrev pub invariant-loop-rule : goal.invariant-loop-rule
invariant-loop-rule l = l.objects.items ≡ map (λ rule. rule.object) (take l.rule-index l.rule-items)
