use Rattle.std.proofs.Common.{rules, subst, sym}
use Rattle.module_table.specs.Prelude.{IsSparse}
use Rattle.module_table.proofs.pool.links.Picked.pick.Goals as goal
use Rattle.module_table.proofs.pool.links.Picked.pick.Goals.{in-Some+in_ok-add, in_default, in-Some-Some+in-Some-get+in-Some-Some-get+in-Some-get-2+in-None, in_default2}

pub loop-name-preserved : goal.loop-name-preserved
loop-name-preserved c = elim c.match-module_of.branch [
  | in-Some+in_ok-add w ↦ subst IsSparse (sym w.self-is) w.in_ok-add.ensures
  | in_default w ↦ subst IsSparse (sym w.self-is) c.loop-name.invariant
]

pub loop-next-preserved : goal.loop-next-preserved
loop-next-preserved c = elim c.match-get.branch [
  | in-Some-Some+in-Some-get+in-Some-Some-get+in-Some-get-2+in-None w ↦ subst IsSparse (sym w.self-is) w.loop-source.invariant.2
  | in_default2 w ↦ subst IsSparse (sym w.self-is) c.loop-next.invariant
]

pub loop-source-preserved : goal.loop-source-preserved
loop-source-preserved c = ((tt, tt), tt, c.loop-source.invariant.2)

pub loop-source-init : goal.loop-source-init
loop-source-init c = (search rules, search rules, c.loop-next.invariant)

pub loop-rule-preserved : goal.loop-rule-preserved
loop-rule-preserved c = c.loop-name.invariant
