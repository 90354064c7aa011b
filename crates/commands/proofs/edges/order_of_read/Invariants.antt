use Rattle.std.proofs.Common.{◌≡◌, take}
use Rattle.commands.specs.Order.{order_text}
use Rattle.commands.proofs.edges.order_of_read.Given as goal

-- the edges so far
abbrev pub invariant-loop-edge_index : goal.invariant-loop-edge_index
invariant-loop-edge_index l = l.text.items ≡ order_text l.graph (take l.edge_index-index l.edge_index-items)
