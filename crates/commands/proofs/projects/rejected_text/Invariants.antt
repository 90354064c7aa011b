use Rattle.std.proofs.Common.{◌≡◌, take, map}
use Rattle.commands.specs.ProjectCommand.{names_at}
use Rattle.commands.proofs.projects.rejected_text.Given as goal

-- the names so far
abbrev pub invariant-loop-earlier : goal.invariant-loop-earlier
invariant-loop-earlier l = map (λ n. n.now) l.names.items ≡ names_at l.targets (take l.earlier-index l.earlier-items)
