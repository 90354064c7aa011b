use Rattle.std.proofs.Common.{◌≡◌, map}
use Rattle.ninja_text.specs.Reduction.{reduced}
use Rattle.ninja_text.specs.inner.ComponentLists.{list_text}
use Rattle.ninja_text.proofs.reduction.reduce.Given as goal

-- the list of the components so far
abbrev pub invariant-loop-component : goal.invariant-loop-component
invariant-loop-component l = l.list.items ≡ list_text (reduced (map (λ c. c.now) l.yielded))
