use Rattle.std.proofs.Common.{◌≡◌, take, slice_get}
use Rattle.module_table.specs.Prelude.{filter_map}
use Rattle.module_table.proofs.needed.Needs.of.Given as goal

abbrev pub invariant-loop-node : goal.invariant-loop-node
invariant-loop-node l = l.ranks.items ≡ filter_map (slice_get l.self-inside.ranks.items) (take l.node-index l.node-items)
