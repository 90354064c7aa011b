use Rattle.std.proofs.Common.{◌≡◌, ◌+◌, ◌<◌, ◌∙◌, ap, get_or, sym, subst, length, map, arith, slice_get, Some, List, take_all}
use Rattle.module_table.specs.Prelude.{filter_map, IsPermutation, NodeNeeds, AreReached, TableValue, table_with, ArePairs, IsNeeded, lent, pair_in, pairs_of, Numbered}
use Rattle.std.specs.List.{All}
use Rattle.std.proofs.lemmas.Option.{slice_get-get_or, slice_get_past}
use Rattle.std.proofs.lemmas.Result.{IfOk-weaker}
use Rattle.module_table.proofs.Lists.{same_reads, read_at}
use Rattle.module_table.proofs.Graph.{node_within, many_origins}
use Rattle.module_table.proofs.IndexRows.{length_mapped, takes_some, takes_none}
use Rattle.module_table.proofs.NeededPairs.{all_in_range, needed_lent}
use Rattle.module_table.proofs.needed.Needs.of.Goals as goal
use Rattle.module_table.proofs.needed.Needs.of.Goals.{in-Some+in_ok-push, in_default, After-sort_unstable}

pub from-requires : goal.from-requires
from-requires c =
    let t = table_with c.self.inside.objects.now c.self.inside.infos.now in
    let within = subst (λ (t : TableValue). c.args.object < length t.objects) (sym c.self.view_is) c.requires in
    omega (
      arith,
      (node_within t c.self.inside.reaching c.self.invariant.is_graph c.args.object within),
      (many_origins t),
      c.self.invariant.ranked.as_many,
      c.len.ensures,
      c.self.inside.ranks.ok.0,
    )

pub loop-node-preserved : goal.loop-node-preserved
loop-node-preserved c =
    let ranks = c.self.inside.ranks.items in
    let nodes = c.deref-node-items.result.now in
    let i = c.loop-node.node-index in
    let n = get_or nodes i 0 in
    let at = slice_get-get_or nodes i 0 c.loop-node-test.true in
    let list = same_reads n (sym c.deref.ensures.value) in
    elim c.match-get.branch [
      | in-Some+in_ok-push w ↦
          let h = w.in-Some.ensures.lookup in
          ap (λ v. v.items) w.ranks-is ∙
          takes_some (slice_get ranks) nodes i at c.loop-node.invariant
          (list ∙ read_at c.deref.result.now n h.3.0 h.1) w.in_ok-push.ensures.items
      | in_default w ↦ ap (λ v. v.items) w.ranks-is ∙
          takes_none (slice_get ranks) nodes i at c.loop-node.invariant
          (list ∙ slice_get_past c.deref.result.now n w.in_default.ensures.lookup.3)
    ]

-- the object is one of the table, the nodes are what it leads to, and the ranks are those of these nodes
found : (c : After-sort_unstable) → (c.args.object < length c.self.inside.objects.now)
    × AreReached (NodeNeeds c.self.inside.reaching) (length c.self.inside.ranks.items + c.args.object) c.in_ok-nodes.nodes.items
    × IsPermutation (filter_map (slice_get c.self.inside.ranks.items) c.in_ok-nodes.nodes.items) c.sort_unstable.new.self.items
found c =
    let ranks = c.self.inside.ranks.items in
    let count : c.len.result ≡ length ranks = omega (arith, c.len.ensures, c.self.inside.ranks.ok.0) in (
      subst (λ (t : TableValue). c.args.object < length t.objects) (sym c.self.view_is) c.requires,
      subst (λ n. AreReached (NodeNeeds c.self.inside.reaching) (n + c.args.object) c.in_ok-nodes.nodes.items) count c.in_ok-nodes.ensures.reached,
      subst (λ xs. IsPermutation xs c.sort_unstable.new.self.items)
          (c.loop-node.invariant ∙ ap (filter_map (slice_get ranks))
          (take_all c.loop-node.node-index c.deref-node-items.result.now c.loop-node-test.false ∙ c.deref-node-items.ensures.value))
          c.sort_unstable.ensures.permutation,
    )

pub pairs_at-requires : goal.pairs_at-requires
pairs_at-requires c =
    let t = table_with c.self.inside.objects.now c.self.inside.infos.now in
    let ranks = c.self.inside.ranks.items in
    let f = found (goal.at.pairs_at-requires c).After-sort_unstable in
    let all = all_in_range t c.self.invariant.sound c.self.inside.reaching c.self.invariant.is_graph ranks (pairs_of c.self.inside.modules.items)
    c.self.invariant.ranked c.args.object f.0 _ f.1 _ f.2 c.sort_unstable.ensures.sorted in
    let long = length_mapped pair_in c.self.inside.modules.items in
    subst (λ n. All (λ rank. rank < n) c.as_slice-2.result.now) (long ∙ sym (ap length c.as_slice.ensures.value))
    (subst (All (λ rank. rank < length (pairs_of c.self.inside.modules.items))) (sym c.as_slice-2.ensures.value) all)

pub returns-clause-pairs : goal.returns-clause-pairs
returns-clause-pairs c =
    let t = table_with c.self.inside.objects.now c.self.inside.infos.now in
    let ranks = c.self.inside.ranks.items in
    let f = found (goal.at.returns-clause-pairs c).After-sort_unstable in
    IfOk-weaker c.pairs_at.result (λ out. map Some out.items ≡ map (slice_get (pairs_of c.as_slice.result.now)) c.as_slice-2.result.now) _
    (λ out is. subst (λ (t : TableValue). ArePairs (IsNeeded t c.args.object) (map lent out.items)) c.self.view_is
    (needed_lent t c.self.invariant.sound c.self.inside.reaching c.self.invariant.is_graph ranks (pairs_of c.self.inside.modules.items)
    c.self.invariant.ranked c.args.object f.0 _ f.1 _ f.2 c.sort_unstable.ensures.sorted out.items
    (is ∙ ap (λ (xs : List Numbered). map (slice_get (pairs_of xs)) c.as_slice-2.result.now) c.as_slice.ensures.value ∙
    ap (map (slice_get (pairs_of c.self.inside.modules.items))) c.as_slice-2.ensures.value)))
    c.pairs_at.ensures

pub overflow_add-len : goal.overflow_add-len
overflow_add-len c =
    let t = table_with c.self.inside.objects.now c.self.inside.infos.now in
    let within = subst (λ (t : TableValue). c.args.object < length t.objects) (sym c.self.view_is) c.requires in
    omega (arith, within, c.self.invariant.few, c.self.invariant.ranked.as_many, c.len.ensures, c.self.inside.ranks.ok.0)

-- the invariant, once the workspace has been used
pub invariant_of-self : goal.invariant_of-self
invariant_of-self c = rw c.from.ensures.same c.self.invariant

pub invariant_of-self-in_err-ranks : goal.invariant_of-self-in_err-ranks
invariant_of-self-in_err-ranks c = rw c.from.ensures.same c.self.invariant

pub invariant_of-self-in_err-push : goal.invariant_of-self-in_err-push
invariant_of-self-in_err-push c = rw c.from.ensures.same c.self.invariant

pub invariant_of-self-2 : goal.invariant_of-self-2
invariant_of-self-2 c = rw c.from.ensures.same c.self.invariant
