use Rattle.std.proofs.Common.{◌≡◌, ◌++◌, length, take, map, zip}
use Rattle.commands.specs.Answers.{file_value}
use Rattle.commands.proofs.Targets.{map_file}
use Rattle.commands.proofs.target.append_maps.Given as goal

-- the files of the objects so far
abbrev pub invariant-loop-object : goal.invariant-loop-object
invariant-loop-object l = map file_value l.files.items ≡
    map file_value l.fn.files.items ++ map (map_file l.fn.keeps) (take (length l.yielded) (zip l.fn.objects l.fn.maps.items))
