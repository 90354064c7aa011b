use Rattle.std.proofs.Common.{◌≡◌, take, map}
use Rattle.commands.specs.Prelude.{cow_slice_items, listed_as}
use Rattle.commands.proofs.target.slices.Given as goal

-- the files so far
abbrev pub invariant-loop-file : goal.invariant-loop-file
invariant-loop-file l = map (listed_as (λ s. s.now)) l.slices.items ≡ map (listed_as cow_slice_items) (take l.file-index l.files)
