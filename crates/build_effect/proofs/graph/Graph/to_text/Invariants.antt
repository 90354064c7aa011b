use Rattle.std.proofs.Common.{◌≡◌, ◌++◌, drop}
use Rattle.build_effect.specs.Prelude.{listing_text, too_long_from}
use Rattle.build_effect.proofs.graph.Graph.to_text.Given as goal

-- the text so far and that of the edges to come are the whole text, and the first build line that is too long is to come
abbrev pub invariant-loop-edge_index : goal.invariant-loop-edge_index
invariant-loop-edge_index l = record {
  text : l.text.items ++ listing_text (drop l.edge_index l.edge-items) ≡ listing_text l.edge-items;
  none : too_long_from 0 l.edge-items ≡ too_long_from l.edge_index (drop l.edge_index l.edge-items);
}
