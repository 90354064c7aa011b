use Rattle.std.proofs.Common.{◌≡◌, ◌<◌, ◌+◌, ◌++◌, ◌∷◌, [], ℕ, List, Bool, ⊎_elim, length, arith, subst, sym, ◌∙◌, set, slice_index, true, false, Some, None, ap, not, get_or}
use Rattle.std.proofs.lemmas.Grind.{common_steps}
use Rattle.std.proofs.lemmas.Bool.{cases_lt, false≢true}
use Rattle.std.proofs.lemmas.List.{get_or_read, get_or-set_same, length_push}
use Rattle.std.proofs.lemmas.List.Sums.{sum_by-set}
use Rattle.std.proofs.lemmas.List.Elements.{Contains-push}
use Rattle.dep_order.specs.Prelude.{All, count_by, needs_of, NeedsAreNodes, lists, one_if, is_seen, IsInDepth, IsFirstUnseen, SeesMore}
use Rattle.dep_order.proofs.Releases.{length_lists}
use Rattle.dep_order.proofs.Answered.{row_nodes}
use Rattle.dep_order.proofs.Searches.{emptied_by}
use Rattle.dep_order.proofs.Postorders.{all_left, begun, entered, left_behind, sees_more, path_seen, seen_in_range, first_unseen_at}
use Rattle.dep_order.proofs.Words.{Graph, Numbers}
use Rattle.dep_order.proofs.searching.postorder_of.Goals as goal

-- the nodes up to the root are seen, as those before it were
seen_next : (before seen : List Bool) (root : ℕ) → ((node : ℕ) → node < root → is_seen before node ≡ true) → SeesMore before seen → is_seen seen root ≡ true →
    (node : ℕ) → node < root + 1 → is_seen seen node ≡ true
seen_next before seen root old more at node lt =
    ⊎_elim (λ below. more node (old node below)) (λ ge. let same : root ≡ node = omega arith in subst (λ x. is_seen seen x ≡ true) same at) (cases_lt node root)

-- the last node of the path is a node
last_in : {needs : Graph} {seen : List Bool} {scanned : Numbers} (rest : Numbers) {path left : Numbers} (node : ℕ) → path ≡ rest ++ node ∷ [] →
    IsInDepth needs seen scanned path left → node < length needs
last_in {needs} {seen} {scanned} rest {path} {left} node e h = omega (arith, seen_in_range seen node (path_seen h (rw e (Contains-push rest node))))

-- and so are the nodes of its row
row_in : {needs : Graph} {seen : List Bool} {scanned path left row : Numbers} (rest : Numbers) (node : ℕ) → path ≡ rest ++ node ∷ [] →
    row ≡ needs_of needs node → NeedsAreNodes needs → IsInDepth needs seen scanned path left → All (λ x. x < length seen) row
row_in {needs} {seen} rest node e is nodes h =
    rw is (row_nodes needs node (length seen) (omega arith) (last_in rest node e h) nodes)

-- one node fewer is not seen
one_fewer : (seen : List Bool) (next : ℕ) → next < length seen → is_seen seen next ≡ false → count_by not (set seen next true) + 1 ≡ count_by not seen
one_fewer seen next lt e = omega (arith, ap (λ b. one_if (not b)) e, sum_by-set (λ b. one_if (not b)) seen next true false lt)

pub loop-node-init : goal.loop-node-init
loop-node-init c =
    let lt : c.loop-root.root < length c.loop-root.seen.items = omega (arith, length_lists c.args.needs.now) in
    let unseen =
    sym (get_or_read c.loop-root.seen.items c.loop-root.root c.index.result.now lt c.index.ensures false) ∙ c.if-index.false in
    record {
      in_depth = begun c.loop-root.root
          (c.in_ok-push.ensures.items ∙ ap (λ xs. xs ++ c.loop-root.root ∷ []) c.loop-root.invariant.no_path) (omega (arith, length_lists c.args.needs.now))
          unseen c.loop-root.invariant.in_depth;
      root_seen = get_or-set_same c.loop-root.seen.items c.loop-root.root true false lt;
      kept = λ node e. e;
    }

pub row_of-row-requires : goal.row_of-row-requires
row_of-row-requires c =
    omega (arith, last_in c.pop.new.self.items c.in-Some.node c.in-Some.ensures.items c.loop-node.invariant.in_depth, length_lists c.args.needs.now)

pub index-requires-in-Some : goal.index-requires-in-Some
index-requires-in-Some c = omega (arith, last_in c.pop.new.self.items c.in-Some.node c.in-Some.ensures.items c.loop-node.invariant.in_depth)

pub first_unseen-requires : goal.first_unseen-requires
first_unseen-requires c =
    rw c.as_slice.ensures.value
    (row_in c.pop.new.self.items c.in-Some.node c.in-Some.ensures.items c.row_of-row.ensures c.requires c.loop-node.invariant.in_depth)

pub loop-node-smaller : goal.loop-node-smaller
loop-node-smaller c = omega (arith, ap length c.in-Some.ensures.items, length_push c.pop.new.self.items c.in-Some.node)

pub loop-node-smaller-in-Continue-branch-5 : goal.loop-node-smaller-in-Continue-branch-5
loop-node-smaller-in-Continue-branch-5 c =
    omega (
      arith,
      one_fewer c.loop-node.seen.items (slice_index c.row_of-row.result.now c.in-Some-first_unseen.index)
          (row_in c.pop.new.self.items c.in-Some.node c.in-Some.ensures.items c.row_of-row.ensures c.requires
          c.loop-node.invariant.in_depth c.in-Some-first_unseen.index 0 c.in-Some-first_unseen.ensures.1)
          (rw (← c.as_slice.ensures.value) c.in-Some-first_unseen.ensures.2),
      ap length c.in-Some.ensures.items,
      ap length c.in_ok-push-in-Some-first_unseen.ensures.items,
      ap length c.in_ok-push-in-Some-first_unseen-2.ensures.items,
      length_push c.pop.new.self.items c.in-Some.node,
      length_push c.push-in-Some-first_unseen.new.self.items (slice_index c.row_of-row.result.now c.in-Some-first_unseen.index),
    )

-- Rattle's own name of this goal: the search continues from the node with one that is not seen.
pub loop-node-preserved-in-Continue-branch-5 : goal.loop-node-preserved-in-Continue-branch-5
loop-node-preserved-in-Continue-branch-5 c =
    let node_lt : c.in-Some.node < length (lists c.args.needs.now) =
    last_in c.pop.new.self.items c.in-Some.node c.in-Some.ensures.items c.loop-node.invariant.in_depth in
    let from_is : c.index-in-Some.result.now ≡ slice_index c.loop-node.scanned.items c.in-Some.node =
    get_or_read c.loop-node.scanned.items c.in-Some.node c.index-in-Some.result.now (omega arith) c.index-in-Some.ensures 0 in
    let found : IsFirstUnseen (needs_of (lists c.args.needs.now) c.in-Some.node) c.loop-node.seen.items (slice_index c.loop-node.scanned.items c.in-Some.node)
    (Some c.in-Some-first_unseen.index) =
    first_unseen_at
    (Some c.in-Some-first_unseen.index) c.row_of-row.ensures
    c.as_slice.ensures.value from_is c.in-Some-first_unseen.ensures in
    let at : slice_index (needs_of (lists c.args.needs.now) c.in-Some.node) c.in-Some-first_unseen.index ≡
    slice_index c.row_of-row.result.now c.in-Some-first_unseen.index =
    ap (λ row. slice_index row c.in-Some-first_unseen.index) (sym c.row_of-row.ensures) in
    let next_lt : slice_index c.row_of-row.result.now c.in-Some-first_unseen.index < length (lists c.args.needs.now) =
    omega (
      arith,
      row_nodes (lists c.args.needs.now) c.in-Some.node (length (lists c.args.needs.now)) (omega arith) node_lt c.requires
          c.in-Some-first_unseen.index 0 found.1,
    ) in
    let unseen : is_seen c.loop-node.seen.items (slice_index c.row_of-row.result.now c.in-Some-first_unseen.index) ≡ false =
    subst (λ x. is_seen c.loop-node.seen.items x ≡ false) at found.2 in
    let kept = sees_more c.loop-node.seen.items (slice_index c.row_of-row.result.now c.in-Some-first_unseen.index) (omega arith) in
    record {
      in_depth =
          rw (c.in_ok-push-in-Some-first_unseen-2.ensures.items ∙
          ap (λ xs. xs ++ slice_index c.row_of-row.result.now c.in-Some-first_unseen.index ∷ []) c.in_ok-push-in-Some-first_unseen.ensures.items)
          (entered c.pop.new.self.items c.in-Some.node c.in-Some-first_unseen.index (slice_index c.row_of-row.result.now c.in-Some-first_unseen.index)
          c.in-Some.ensures.items node_lt next_lt found.1 at unseen found.3 c.loop-node.invariant.in_depth);
      root_seen = kept c.loop-root.root c.loop-node.invariant.root_seen;
      kept = λ node e. kept node (c.loop-node.invariant.kept node e);
    }

pub loop-node-preserved : goal.loop-node-preserved
loop-node-preserved c =
    let from_is =
    get_or_read c.loop-node.scanned.items c.in-Some.node c.index-in-Some.result.now
    (omega (arith, last_in c.pop.new.self.items c.in-Some.node c.in-Some.ensures.items c.loop-node.invariant.in_depth)) c.index-in-Some.ensures 0 in
    let none = first_unseen_at
    None c.row_of-row.ensures c.as_slice.ensures.value from_is
    c.in-None.ensures in
    record {
      in_depth =
          rw c.in_ok-push-in-None.ensures.items (left_behind c.in-Some.node c.in-Some.ensures.items none c.loop-node.invariant.in_depth);
      root_seen = c.loop-node.invariant.root_seen;
      kept = c.loop-node.invariant.kept;
    }

-- the root was seen already
pub loop-root-preserved-then-index : goal.loop-root-preserved-then-index
loop-root-preserved-then-index c =
    let lt : c.loop-root.root < length c.loop-root.seen.items = omega (arith, length_lists c.args.needs.now) in
    record {
      in_depth = c.loop-root.invariant.in_depth;
      seen = seen_next c.loop-root.seen.items c.loop-root.seen.items c.loop-root.root c.loop-root.invariant.seen (λ node e. e)
          (sym (get_or_read c.loop-root.seen.items c.loop-root.root c.index.result.now lt c.index.ensures false) ∙ c.if-index.true);
      no_path = c.loop-root.invariant.no_path;
    }

pub loop-root-preserved : goal.loop-root-preserved
loop-root-preserved c =
    let lt : c.loop-root.root < length c.loop-root.seen.items = omega (arith, length_lists c.args.needs.now) in
    let none = emptied_by c.loop-node.path (λ lt. false≢true (c.in_default.ensures.variant.1 lt)) in
    record {
      in_depth = subst (λ xs. IsInDepth (lists c.args.needs.now) c.loop-node.seen.items c.loop-node.scanned.items xs c.loop-node.left.items) none
          c.loop-node.invariant.in_depth;
      seen = seen_next c.loop-root.seen.items c.loop-node.seen.items c.loop-root.root c.loop-root.invariant.seen
          (λ node e. c.loop-node.invariant.kept node (sees_more c.loop-root.seen.items c.loop-root.root lt node e)) c.loop-node.invariant.root_seen;
      no_path = emptied_by c.pop.new.self (λ lt. omega (arith, c.in_default.ensures.cases.1));
    }

pub returns : goal.returns
returns c = all_left (λ node lt. c.loop-root.invariant.seen node (omega (arith, length_lists c.args.needs.now))) c.loop-root.invariant.in_depth

pub index-requires : goal.index-requires
index-requires c = omega (arith, length_lists c.args.needs.now)

pub index_mut-requires : goal.index_mut-requires
index_mut-requires c = omega (arith, length_lists c.args.needs.now)

pub overflow_add-index : goal.overflow_add-index
overflow_add-index c = omega (arith, c.in-Some-first_unseen.ensures.1)

pub bounds-row-index : goal.bounds-row-index
bounds-row-index c = c.in-Some-first_unseen.ensures.1

pub bounds-row-index-in-Some-first_unseen : goal.bounds-row-index-in-Some-first_unseen
bounds-row-index-in-Some-first_unseen c = c.in-Some-first_unseen.ensures.1

pub index_mut-requires-in-Some-first_unseen : goal.index_mut-requires-in-Some-first_unseen
index_mut-requires-in-Some-first_unseen c =
    omega (arith, last_in c.pop.new.self.items c.in-Some.node c.in-Some.ensures.items c.loop-node.invariant.in_depth)

pub index_mut-requires-in-Some-first_unseen-2 : goal.index_mut-requires-in-Some-first_unseen-2
index_mut-requires-in-Some-first_unseen-2 c =
    omega (
      arith,
      row_in c.pop.new.self.items c.in-Some.node c.in-Some.ensures.items c.row_of-row.ensures c.requires c.loop-node.invariant.in_depth
          c.in-Some-first_unseen.index 0 c.in-Some-first_unseen.ensures.1,
    )

pub loop-root-init : goal.loop-root-init
loop-root-init c = grind (arith, common_steps)
