use Rattle.std.proofs.Common.{All}
use Rattle.commands.specs.Prelude.{ArePassed, PassesAt}
use Rattle.commands.proofs.shared_lists.passed_together.Given as goal

abbrev pub invariant-loop-index : goal.invariant-loop-index
invariant-loop-index l =
    ArePassed l.targets l.outs l.passed.items × All (PassesAt l.targets l.outs) l.index-items
    × (goal.iterator-loop-indexes).can_next l.indexes-iterator × (goal.iterator-loop-indexes).is_finite l.indexes-iterator

abbrev pub invariant-loop-indexes : goal.invariant-loop-indexes
invariant-loop-indexes l =
    ArePassed l.targets l.outs l.passed.items
    × (goal.iterator-loop-indexes).can_next l.indexes-iterator × (goal.iterator-loop-indexes).is_finite l.indexes-iterator
