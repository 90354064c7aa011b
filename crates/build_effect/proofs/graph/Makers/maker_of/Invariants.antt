use Rattle.std.proofs.Common.{◌≡◌, None, take}
use Rattle.build_effect.specs.Prelude.{tables_of, entries_of, maker_in}
use Rattle.build_effect.proofs.graph.Makers.maker_of.Given as goal

abbrev pub invariant-loop-table : goal.invariant-loop-table
invariant-loop-table l = maker_in (entries_of (tables_of (take l.table-index l.table-items))) l.file ≡ None
