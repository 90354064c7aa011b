use Rattle.std.proofs.Common.{◌≡◌, length, take, map, zip}
use Rattle.commands.specs.Prelude.{file_value, all_files}
use Rattle.commands.proofs.projects.write_all.Given as goal

-- the files of the targets so far
abbrev pub invariant-loop-target : goal.invariant-loop-target
invariant-loop-target l = map file_value l.files.items ≡ all_files (take (length l.yielded) (zip l.fn.targets l.fn.outs.items))
