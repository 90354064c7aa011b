use Rattle.std.proofs.Common.{◌≡◌, ℕ, ◌+◌, ◌*◌, ◌<◌, [], length, not, true}
use Rattle.dep_order.specs.Prelude.{count_by, lists, IsInDepth, SeesMore, is_seen}
use Rattle.dep_order.proofs.searching.postorder_of.Given as goal

-- the roots so far are seen, and the search has left all that is
abbrev pub invariant-loop-root : goal.invariant-loop-root
invariant-loop-root l = record {
  in_depth : IsInDepth (lists l.needs) l.seen.items l.scanned.items [] l.left.items;
  seen : (node : ℕ) → node < l.root → is_seen l.seen.items node ≡ true;
  no_path : l.path.items ≡ [];
}

abbrev pub invariant-loop-node : goal.invariant-loop-node
invariant-loop-node l = record {
  in_depth : IsInDepth (lists l.needs) l.seen.items l.scanned.items l.path.items l.left.items;
  root_seen : is_seen l.seen.items l.root ≡ true;
  kept : SeesMore l.initial.seen.items l.seen.items;
}

-- each turn sees one more node or leaves one
abbrev pub decreases-loop-node : goal.decreases-loop-node
decreases-loop-node l = 2 * count_by not l.seen.items + length l.path.items
