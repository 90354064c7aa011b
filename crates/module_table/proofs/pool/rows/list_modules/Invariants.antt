use Rattle.std.proofs.Common.{take}
use Rattle.module_table.specs.Prelude.{By, key_of, rows_of, AreListed, AreShared, HasBit, StillListed, StillKeyed}
use Rattle.module_table.proofs.pool.rows.list_modules.Given as goal

abbrev pub invariant-loop-module : goal.invariant-loop-module
invariant-loop-module l = record {
  still : StillListed l.initial.listed l.listed;
  keyed : StillKeyed l.initial.listed l.listed;
  all : (by : By) → AreListed (key_of by) l.info (take l.module l.modules) (rows_of l.listed by);
  share : (by : By) → AreShared (key_of by) l.info (take l.module l.modules) (rows_of l.initial.listed by) (HasBit l.shared.items);
}
