use Rattle.std.proofs.Common.{◌≡◌, take, map, slice_get, Some}
use Rattle.module_table.specs.Prelude.{pairs_of}
use Rattle.module_table.proofs.needed.pairs_at.Given as goal

abbrev pub invariant-loop-index : goal.invariant-loop-index
invariant-loop-index l = map Some l.found.items ≡ map (slice_get (pairs_of l.modules)) (take l.index-index l.indexes)
