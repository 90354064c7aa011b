use Rattle.std.proofs.Common.{take, map, string_bytes}
use Rattle.commands.specs.ProjectCommand.{LinksTo}
use Rattle.commands.proofs.read_targets.links_of.Given as goal

-- the indexes of the info files so far
abbrev pub invariant-loop-info : goal.invariant-loop-info
invariant-loop-info l = LinksTo l.targets (map string_bytes (take l.info-index l.infos)) l.linked.items
