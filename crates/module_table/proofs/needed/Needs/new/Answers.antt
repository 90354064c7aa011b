use Rattle.std.proofs.Common.{◌≡◌, ◌+◌, ◌<◌, ◌^◌, ap, sym, subst, refl, length, map, get_or, List, arith}
use Rattle.std.proofs.lemmas.Option.{slice_get-get_or}
use Rattle.module_table.specs.Prelude.{table_with, provisions, lent, IsModuleGraph, pairs_of, AreByNumber, AreByName, AreNumbers, AreRanks, Object, Numbered}
use Rattle.module_table.proofs.Lists.{read_at}
use Rattle.module_table.proofs.Graph.{named_there, pair_there, many_origins}
use Rattle.module_table.proofs.Pairs.{are_numbers, are_ranked, by_name, lent_modules, listed_more, ranks_more}
use Rattle.module_table.proofs.needed.Needs.new.Goals as goal
use Rattle.module_table.proofs.needed.Needs.new.Goals.{After-sort_unstable}

pub named_at-requires : goal.named_at-requires
named_at-requires c =
    let k = c.loop-index.index in
    named_there (table_with c.args.objects.now c.args.infos.now) c.args.origins.now c.requires.origins k (get_or c.args.origins.now k (Object 0, 0))
    (slice_get-get_or c.args.origins.now k (Object 0, 0) c.loop-index-test.true)

pub loop-index-preserved : goal.loop-index-preserved
loop-index-preserved c =
    let t = table_with c.args.objects.now c.args.infos.now in
    let k = c.loop-index.index in
    let pair = pair_there t c.args.origins.now c.requires.origins k (get_or c.args.origins.now k (Object 0, 0)) (lent c.named_at.result)
    (slice_get-get_or c.args.origins.now k (Object 0, 0) c.loop-index-test.true) c.named_at.ensures in
    subst (AreByNumber (provisions t) (k + 1)) (sym c.in_ok-push.ensures.items)
    (listed_more (provisions t) k c.loop-index.modules.items (record { name = c.named_at.result.0; file = c.named_at.result.1; index = k }) refl pair
    c.loop-index.invariant)

-- all modules, once they are sorted
sorted : (c : After-sort_unstable) → AreByName (provisions (table_with c.args.objects.now c.args.infos.now)) c.sort_unstable.new.self.items
sorted c =
    let t = table_with c.args.objects.now c.args.infos.now in
    let modules = c.sort_unstable.new.self.items in
    let made = c.loop-index.modules.items in
    let long : length modules ≡ length made = omega (arith, c.sort_unstable.ensures.len, c.sort_unstable.new.self.ok.0, c.loop-index.modules.ok.0) in
    let all : c.loop-index.index ≡ length (provisions t) = omega (
      arith,
      c.loop-index-test.false,
      c.loop-index.auto.index-end,
      (many_origins t),
      ap length c.requires.origins,
    ) in
    by_name t c.requires.sound made (subst (λ n. AreByNumber (provisions t) n made) all c.loop-index.invariant) modules long
    c.sort_unstable.ensures.permutation c.sort_unstable.ensures.sorted

pub index_mut-requires : goal.index_mut-requires
index_mut-requires c =
    let t = table_with c.args.objects.now c.args.infos.now in
    let modules = c.sort_unstable.new.self.items in
    let by = sorted (goal.at.index_mut-requires c).After-sort_unstable in
    let i = c.loop-rank.rank in
    let m = c.numbered-item.result in
    let within = (subst AreNumbers (sym c.deref-numbered-items.ensures.value) (are_numbers (provisions t) modules by)).below i m
    (read_at c.deref-numbered-items.result.now i c.loop-rank-test.true c.numbered-item.is) in
    omega (arith, within, c.loop-rank.invariant.as_many, c.loop-rank.ranks.ok.0)

pub loop-rank-preserved : goal.loop-rank-preserved
loop-rank-preserved c =
    let t = table_with c.args.objects.now c.args.infos.now in
    let modules = c.sort_unstable.new.self.items in
    let by = sorted (goal.at.loop-rank-preserved c).After-sort_unstable in
    let i = c.loop-rank.rank in
    let m = c.numbered-item.result in
    let items = c.deref-numbered-items.result.now in
    ranks_more items i c.loop-rank.ranks.items m (subst AreNumbers (sym c.deref-numbered-items.ensures.value) (are_numbers (provisions t) modules by))
    (read_at items i c.loop-rank-test.true c.numbered-item.is) c.loop-rank.invariant

pub invariant_of-result : goal.invariant_of-result
invariant_of-result c =
    let t = table_with c.args.objects.now c.args.infos.now in
    let modules = c.sort_unstable.new.self.items in
    let by = sorted (goal.at.invariant_of-result c).After-sort_unstable in
    let items = c.deref-numbered-items.result.now in
    let all : c.loop-rank.rank ≡ length items = omega (arith, c.loop-rank-test.false, c.loop-rank.auto.rank-end) in
    let ranks = subst (λ (xs : List Numbered). AreRanks xs (length xs) c.loop-rank.ranks.items) c.deref-numbered-items.ensures.value
    (subst (λ n. AreRanks items n c.loop-rank.ranks.items) all c.loop-rank.invariant) in
    let ranked = are_ranked (provisions t) modules by c.loop-rank.ranks.items ranks (map lent (pairs_of modules)) (lent_modules modules) in
    let bound : length (provisions t) + length t.objects < 2 ^ 64 =
    omega (arith, (many_origins t), ap length c.requires.origins) in
    record { sound = c.requires.sound; is_graph = subst (IsModuleGraph t) (sym c.in_ok-new.ensures) c.requires.graph; ranked = ranked; few = bound }
