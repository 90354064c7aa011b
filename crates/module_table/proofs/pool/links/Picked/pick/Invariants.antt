use Rattle.module_table.specs.Prelude.{IsSparse}
use Rattle.module_table.proofs.pool.links.Picked.pick.Given as goal

abbrev pub invariant-loop-name : goal.invariant-loop-name
invariant-loop-name l = IsSparse l.self

abbrev pub invariant-loop-rule : goal.invariant-loop-rule
invariant-loop-rule l = IsSparse l.self

abbrev pub invariant-loop-source : goal.invariant-loop-source
invariant-loop-source l =
    (goal.iterator-loop-source).can_next l.source-iterator ×
    (goal.iterator-loop-source).is_finite l.source-iterator × IsSparse l.self

abbrev pub invariant-loop-next : goal.invariant-loop-next
invariant-loop-next l = IsSparse l.self
