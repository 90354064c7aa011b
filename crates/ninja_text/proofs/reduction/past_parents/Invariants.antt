use Rattle.std.proofs.Common.{length}
use Rattle.ninja_text.specs.inner.PlainPaths.{IsReducedList}
use Rattle.ninja_text.proofs.reduction.past_parents.Given as goal

-- if the rest is reduced, so is the list
abbrev pub invariant-loop-more : goal.invariant-loop-more
invariant-loop-more l = IsReducedList l.rest → IsReducedList l.list

abbrev pub decreases-loop-more : goal.decreases-loop-more
decreases-loop-more l = length l.rest
