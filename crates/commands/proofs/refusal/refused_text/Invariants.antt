use Rattle.std.proofs.Common.{◌≡◌, take, map}
use Rattle.commands.proofs.refusal.refused_text.Given as goal

-- the names of the info files so far
abbrev pub invariant-loop-info : goal.invariant-loop-info
invariant-loop-info l = map (λ n. n.now) l.names.items ≡ map (λ i. i.target) (take l.info-index l.info-items)
