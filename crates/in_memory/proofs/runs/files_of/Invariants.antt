use Rattle.std.proofs.Common.{◌≡◌, ◌++◌, List, length, true}
use Rattle.in_memory.specs.Prelude.{AreCut, IsCut, GivenFile}
use Rattle.in_memory.proofs.runs.files_of.Given as goal

-- what is left is cut into files exactly if all is, and all is cut into those found and these
abbrev pub invariant-loop-file : goal.invariant-loop-file
invariant-loop-file l =
    ((IsCut l.left l.rest → IsCut l.fn.lengths l.fn.text) × (IsCut l.fn.lengths l.fn.text → IsCut l.left l.rest))
    × (l.stored ≡ true → (others : List GivenFile) → AreCut l.left l.rest others → AreCut l.fn.lengths l.fn.text (l.files.items ++ others))

abbrev pub decreases-loop-file : goal.decreases-loop-file
decreases-loop-file l = length l.left
