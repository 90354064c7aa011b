use Rattle.std.proofs.Common.{◌≡◌, ◌<◌, ◌+◌, [], sym, ◌∙◌, ap, subst, arith, rules, length, replicate, None}
use Rattle.std.proofs.lemmas.Bool.{false≢true}
use Rattle.std.proofs.lemmas.List.{length_push}
use Rattle.std.proofs.lemmas.List.Elements.{All-cons, All-contains, All-nil, Contains-append_left, Contains-push}
use Rattle.dep_order.specs.Prelude.{Contains, needs_of, lists, AreMarked, AreNumbersFrom, IsNumberAdded}
use Rattle.dep_order.proofs.Releases.{length_lists}
use Rattle.dep_order.proofs.Searches.{emptied_by, node_in_range}
use Rattle.dep_order.proofs.Answered.{row_nodes, users_are_nodes}
use Rattle.dep_order.proofs.Connected.{none_so_far, more_so_far, all_so_far, numbers_begun, numbers_more, numbers_ended, added_begun, added_more}
use Rattle.dep_order.proofs.cycles.components_of.Goals as goal

pub loop-root-init : goal.loop-root-init
loop-root-init c =
    record {
      so_far = none_so_far
          ((c.in_ok-components.ensures.items_if_clones_equal (search rules)) ∙ ap (λ n. replicate n None) (sym (length_lists c.args.users.now)));
      none_wait = c.new-waiting.ensures.items;
    }

pub mark_row-requires : goal.mark_row-requires
mark_row-requires c =
    let in_left : Contains c.loop-root.postorder.items c.in-Some.root = rw c.in-Some.ensures.items (Contains-push c.pop.new.self.items c.in-Some.root) in
    let in_all : Contains c.in_ok-postorder.postorder.items c.in-Some.root =
    rw c.loop-root.invariant.so_far.front (Contains-append_left c.loop-root.postorder.items c.loop-root.invariant.so_far.behind c.in-Some.root in_left) in
    let below : c.in-Some.root < length c.loop-root.components.items =
    omega (
      arith,
      All-contains (λ node. node < length (lists c.args.needs.now)) c.in_ok-postorder.postorder.items c.in-Some.root c.in_ok-postorder.ensures.nodes
          in_all,
    ) in
    All-cons (λ node. node < length c.loop-root.components.items) c.in-Some.root [] below (All-nil (λ node. node < length c.loop-root.components.items))

pub loop-node-init : goal.loop-node-init
loop-node-init c =
    let e : length c.loop-root.postorder.items ≡ c.len-number.result + 1 =
    omega (arith, ap length c.in-Some.ensures.items, length_push c.pop.new.self.items c.in-Some.root) in
    record {
      so_far = numbers_begun c.in-Some.root c.loop-root.invariant.none_wait
          (rw (← e) c.loop-root.invariant.so_far.in_order) c.in_ok-mark_row.ensures;
      added = λ first none_lower so_far. so_far;
    }

pub row_of-requires : goal.row_of-requires
row_of-requires c =
    let has : Contains c.loop-node.waiting.items c.in-Some-pop.node =
    rw c.in-Some-pop.ensures.items (Contains-push c.pop-in-loop-node.new.self.items c.in-Some-pop.node) in
    omega (
      arith,
      node_in_range c.loop-node.components.items c.in-Some-pop.node
          (c.loop-node.invariant.so_far.waiting_on c.in-Some-pop.node has),
      length_lists c.args.users.now,
    )

pub mark_row-requires-in-Some-pop : goal.mark_row-requires-in-Some-pop
mark_row-requires-in-Some-pop c =
    let has : Contains c.loop-node.waiting.items c.in-Some-pop.node =
    rw c.in-Some-pop.ensures.items (Contains-push c.pop-in-loop-node.new.self.items c.in-Some-pop.node) in
    let below : c.in-Some-pop.node < length (lists c.args.users.now) =
    omega (
      arith,
      node_in_range c.loop-node.components.items c.in-Some-pop.node
          (c.loop-node.invariant.so_far.waiting_on c.in-Some-pop.node has),
    ) in
    rw c.row_of.ensures (row_nodes (lists c.args.users.now) c.in-Some-pop.node (length c.loop-node.components.items) c.loop-node.invariant.so_far.as_many below
    (users_are_nodes c.requires.users c.requires.nodes))

pub loop-node-preserved : goal.loop-node-preserved
loop-node-preserved c =
    let has : Contains c.loop-node.waiting.items c.in-Some-pop.node =
    rw c.in-Some-pop.ensures.items (Contains-push c.pop-in-loop-node.new.self.items c.in-Some-pop.node) in
    let marked : AreMarked (needs_of (lists c.args.users.now) c.in-Some-pop.node) c.len-number.result c.loop-node.components.items
    c.mark_row-in-Some-pop.new.marks.items c.pop-in-loop-node.new.self.items c.mark_row-in-Some-pop.new.next.items =
    rw (← c.row_of.ensures) c.in_ok-mark_row-2.ensures in
    record {
      so_far = numbers_more c.in-Some-pop.node c.in-Some-pop.ensures.items c.loop-node.invariant.so_far marked;
      added = λ first none_lower so_far.
          added_more (lists c.args.users.now) c.in-Some.root c.len-number.result c.in-Some-pop.node first c.loop-node.components.items
          c.mark_row-in-Some-pop.new.marks.items c.loop-node.waiting.items c.pop-in-loop-node.new.self.items c.mark_row-in-Some-pop.new.next.items
          none_lower (c.loop-node.invariant.so_far.waiting_on c.in-Some-pop.node has) marked (c.loop-node.invariant.added first none_lower so_far);
    }

pub loop-root-preserved : goal.loop-root-preserved
loop-root-preserved c =
    let users = lists c.args.users.now in
    let first = c.loop-root.components.items in
    let number : c.len-number.result ≡ length c.pop.new.self.items = omega arith in
    let e : length c.loop-root.postorder.items ≡ c.len-number.result + 1 =
    omega (arith, ap length c.in-Some.ensures.items, length_push c.pop.new.self.items c.in-Some.root) in
    let none = emptied_by c.loop-node.waiting (λ lt. false≢true (c.in_default-pop.ensures.variant.1 lt)) in
    let added = c.loop-node.invariant.added first (subst (λ n. AreNumbersFrom users n first) e c.loop-root.invariant.so_far.in_order)
    (added_begun c.in_ok-mark_row.ensures) in
    record {
      so_far = more_so_far
          c.requires.users c.in_ok-postorder.ensures c.in-Some.ensures.items c.loop-root.invariant.so_far
          (subst (λ n. AreNumbersFrom users n c.loop-node.components.items) number (numbers_ended none c.loop-node.invariant.so_far))
          (subst (λ n. IsNumberAdded users c.in-Some.root n first c.loop-node.components.items) number added);
      none_wait = emptied_by c.pop-in-loop-node.new.self (λ lt. omega (arith, c.in_default-pop.ensures.cases.1));
    }

pub returns : goal.returns
returns c =
    all_so_far c.requires.users c.in_ok-postorder.ensures
    (emptied_by c.loop-root.postorder (λ lt. false≢true (c.in_default.ensures.variant.1 lt))) c.loop-root.invariant.so_far
