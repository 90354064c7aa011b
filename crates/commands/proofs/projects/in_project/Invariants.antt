use Rattle.std.proofs.Common.{◌≡◌, take, map}
use Rattle.commands.specs.ProjectCommand.{project_target}
use Rattle.commands.proofs.projects.in_project.Given as goal

-- the targets so far
abbrev pub invariant-loop-index : goal.invariant-loop-index
invariant-loop-index l = l.parts.items ≡ map project_target (take l.index l.targets)
