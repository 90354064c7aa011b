use Rattle.std.proofs.Common.{All, take, string_bytes}
use Rattle.commands.proofs.Targets.{HasFileIn}
use Rattle.commands.proofs.shared_lists.pass_together.Given as goal

-- each of the targets so far has its dyndep file among these
abbrev pub invariant-loop-index : goal.invariant-loop-index
invariant-loop-index l =
    All (HasFileIn (string_bytes l.edges) l.targets l.outs l.files.items) (take l.index-index l.indexes)
