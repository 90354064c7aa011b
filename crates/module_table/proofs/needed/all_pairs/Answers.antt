use Rattle.std.proofs.Common.{◌≡◌, ◌<◌, ◌+◌, ◌∙◌, ◌++◌, ◌∷◌, [], ap, arith, get_or, length, map, set, subst, sym, take, Some, ℕ, take_all}
use Rattle.module_table.specs.Prelude.{filter_map, option_map, rows, Provision, provisions, first_mentions, pair_of, pair_at, names_of, provision_of, name_in, ArePairsSoFar}
use Rattle.std.proofs.lemmas.List.{get_or-replicate, length-replicate, length-set, map-append}
use Rattle.std.proofs.lemmas.Option.{slice_get-get_or, get_or_from_slice_get}
use Rattle.module_table.specs.Added.{required_of}
use Rattle.module_table.proofs.IndexRows.{length_mapped, many_rows, rule_of, index_within}
use Rattle.module_table.proofs.Mentions.{row_names, pairs_found, no_pairs, pairs_new, pairs_old}
use Rattle.module_table.proofs.needed.all_pairs.Goals as goal
use Rattle.module_table.proofs.needed.all_pairs.Goals.{then-index-object+in_ok-copy_pair+in_ok-push, else-index-object}
use Rattle.ninja_text.proofs.ForCallers.{take_next, to_map}
use Rattle.module_table.proofs.Words.{Pair, name_of, items_of}
use Rattle.module_table.proofs.Lists.{same_reads, read_at}

abbrev pair : Provision → Pair
pair p = (p.name, p.file)

pub loop-index-init : goal.loop-index-init
loop-index-init c = record {
  as_many = c.loop-object.invariant.as_many;
  within = λ k lt.
      let row = c.index-required-object.result in
      let indexes = c.deref-index-items.result.now in
      index_within c.args.modules.now c.args.required.now c.requires c.loop-object.object row
      (read_at c.args.required.now c.loop-object.object c.loop-object-test.true c.index-required-object.is) k (get_or indexes k 0)
      (same_reads k (sym c.deref-index-items.ensures.value) ∙ slice_get-get_or indexes k 0 lt);
  so_far = no_pairs (provisions c.args.modules.now) (c.loop-object.object + 1) c.loop-object.marks.items c.deref-index-items.result.now _
      (λ k d lt. let h = c.loop-object.invariant.at_most k d lt in omega (arith, h)) c.in_ok-pairs.ensures.items;
}

pub index-requires : goal.index-requires
index-requires c = omega
    (arith, c.loop-index.invariant.within c.loop-index.index-index c.loop-index-test.true, c.loop-index.invariant.as_many, c.loop-index.marks.ok.0)

pub index_mut-requires : goal.index_mut-requires
index_mut-requires c =
    omega (arith, c.loop-index.invariant.within c.loop-index.index-index c.loop-index-test.true, c.loop-index.invariant.as_many, c.loop-index.marks.ok.0)

pub module_at-module-requires : goal.module_at-module-requires
module_at-module-requires c =
    omega (
      arith,
      c.loop-index.invariant.within c.loop-index.index-index c.loop-index-test.true,
      length_mapped provision_of c.provided-provided.result.now,
      ap length c.provided-provided.ensures.all.modules,
    )

pub loop-index-preserved : goal.loop-index-preserved
loop-index-preserved c =
    let ps = provisions c.args.modules.now in
    let mark = c.loop-object.object + 1 in
    let indexes = c.deref-index-items.result.now in
    let i = c.loop-index.index-index in
    let v = get_or indexes i 0 in
    let marks = c.loop-index.marks.items in
    let pairs = c.loop-index.pairs.items in
    let h = c.loop-index.invariant in
    let at = slice_get-get_or indexes i 0 c.loop-index-test.true in
    let lt : v < length marks = omega (arith, h.within i c.loop-index-test.true, h.as_many) in
    let read = c.index.ensures ∙ get_or_from_slice_get marks v (get_or marks v 0) c.index.result.now (slice_get-get_or marks v 0 lt) in
    elim c.if-index-object.branch [
      | then-index-object+in_ok-copy_pair+in_ok-push w ↦
          let marks_now : c.if-index-object.marks.items ≡ set marks v mark = ap (λ u. u.items) w.marks-is in
          let copied = w.in_ok-copy_pair.field-0 in
          let found = same_reads v (sym c.provided-provided.ensures.all.modules) ∙
          to_map provision_of c.provided-provided.result.now v _ w.module_at-module.ensures in
          let same : Some copied ≡ pair_at ps v =
          ap (λ n. Some (n, copied.1)) w.in_ok-copy_pair.ensures.name ∙
          ap (λ x. Some (w.module_at-module.result.now.name.now, x)) w.in_ok-copy_pair.ensures.file ∙ sym (ap (option_map pair) found) in
          record {
            as_many = ap length marks_now ∙ length-set marks v mark ∙ h.as_many;
            within = h.within;
            so_far = subst (λ ms. ArePairsSoFar ps mark ms (take (i + 1) indexes) c.if-index-object.pairs.items) (sym marks_now)
                (pairs_new ps mark marks indexes i v at lt pairs h.so_far (λ is. w.if-index-object.true (read ∙ is)) _ copied
                (ap (λ u. u.items) w.pairs-is ∙ w.in_ok-push.ensures.items) same);
          }
      | else-index-object w ↦
          let marks_now : c.if-index-object.marks.items ≡ marks = ap (λ u. u.items) w.marks-is in
          let pairs_now : c.if-index-object.pairs.items ≡ pairs = ap (λ u. u.items) w.pairs-is in
          record {
            as_many = ap length marks_now ∙ h.as_many;
            within = h.within;
            so_far = subst (λ ms. ArePairsSoFar ps mark ms (take (i + 1) indexes) c.if-index-object.pairs.items) (sym marks_now)
                (subst (ArePairsSoFar ps mark marks (take (i + 1) indexes)) (sym pairs_now)
                (pairs_old ps mark marks indexes i v at lt pairs h.so_far (sym read ∙ w.if-index-object.false)));
          }
    ]

pub loop-object-preserved : goal.loop-object-preserved
unfolding required_of
loop-object-preserved c =
    let t = c.args.modules.now in
    let ps = provisions t in
    let names = names_of ps in
    let differ = c.provided-provided.ensures.differ in
    let i = c.loop-object.object in
    let row = c.index-required-object.result in
    let rule = rule_of t (rows c.args.required.now) c.requires i row.items
    (to_map items_of c.args.required.now i row (read_at c.args.required.now i c.loop-object-test.true c.index-required-object.is)) in
    let so_far = c.loop-index.invariant.so_far in
    let pairs = c.loop-index.pairs.items in
    let firsts = so_far.firsts names differ (length_mapped name_of ps ∙ sym c.loop-index.invariant.as_many) ∙
    ap (λ xs. first_mentions (map (name_in names) xs))
    (take_all c.loop-index.index-index c.deref-index-items.result.now c.loop-index-test.false ∙ c.deref-index-items.ensures.value) ∙
    ap first_mentions (row_names names row.items rule.0.required rule.2) in
    let same = sym (pairs_found ps differ so_far.mentioned pairs so_far.found) ∙ ap (filter_map (pair_of ps)) firsts in
    record {
      as_many = c.loop-index.invariant.as_many;
      at_most = so_far.marked.at_most;
      found =
          ap (map (λ r. r.items)) c.in_ok-push-2.ensures.items ∙ map-append (λ r. r.items) c.loop-object.all.items _
          ∙ ap (λ xs. xs ++ pairs ∷ []) c.loop-object.invariant.found
          ∙ ap (λ x. map (required_of t) (take i t.objects) ++ x ∷ []) same
          ∙ sym (ap (map (required_of t)) (take_next t.objects i rule.0 rule.1) ∙ map-append (required_of t) (take i t.objects) (rule.0 ∷ []));
    }

pub returns : goal.returns
returns c =
    let t = c.args.modules.now in
    let vectors = c.args.required.now in
    c.loop-object.invariant.found ∙
    ap (map (required_of t))
    (take_all c.loop-object.object t.objects
    (omega (arith, c.loop-object-test.false, many_rows t (rows vectors) c.requires, length_mapped items_of vectors)))

pub loop-object-init : goal.loop-object-init
loop-object-init c =
    let provided = c.provided-provided.result.now in
    let zeros = c.in_ok-marks.ensures.items_if_clones_equal (λ y same. same) in
    record {
      as_many = omega (arith, c.in_ok-marks.ensures.len, length_mapped provision_of provided, ap length c.provided-provided.ensures.all.modules);
      at_most = λ k d lt.
          let within : k < length provided = omega (arith, lt, ap length zeros, length-replicate {A = ℕ} (length provided) 0) in
          omega (arith, ap (λ xs. get_or xs k d) zeros, get_or-replicate {A = ℕ} (length provided) k 0 d within);
      found = ap (map (λ row. row.items)) c.in_ok-all.ensures.items;
    }
