use Rattle.std.proofs.Common.{drop, map, string_bytes}
use Rattle.commands.specs.Prelude.{Each, ReadsTarget, ReadsTargets}
use Rattle.commands.proofs.Outcomes.{Leads}
use Rattle.commands.proofs.read_targets.read_targets.Given as goal

-- with the targets that are left after those so far, all are read
abbrev pub invariant-loop-name : goal.invariant-loop-name
invariant-loop-name g l =
    Leads (g.F.Folder.calls l.fn.folder) (g.F.Folder.calls l.folder)
    (Each ReadsTarget l.targets (drop l.name-index (map string_bytes l.names))) (ReadsTargets (map string_bytes l.names))
