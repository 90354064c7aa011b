use Rattle.std.proofs.Common.{◌≡◌, take}
use Rattle.module_table.specs.Prelude.{AllZip, Kept, IsPickedOf}
use Rattle.module_table.proofs.pool.links.part_of.Given as goal

abbrev pub invariant-loop-number : goal.invariant-loop-number
invariant-loop-number l = AllZip (IsPickedOf (l.requirements ≡ Kept) l.infos) (take l.number-index l.links.linked.now) l.part.items

abbrev pub invariant-loop-at : goal.invariant-loop-at
invariant-loop-at l = AllZip (IsPickedOf (l.requirements ≡ Kept) l.infos) l.links.linked.now l.part.items
