use Rattle.std.proofs.Common.{◌≡◌, take}
use Rattle.ninja_text.specs.inner.ComponentLists.{slashes_from}
use Rattle.ninja_text.proofs.reduction.slashes.Given as goal

abbrev pub invariant-loop-index : goal.invariant-loop-index
invariant-loop-index l = l.slashes.items ≡ slashes_from 0 (take l.index l.list)
