use Rattle.std.proofs.Common.{◌≡◌, ◌∙◌, ap, sym, refl, subst, List}
use Rattle.std.proofs.lemmas.Option.{slice_get_read}
use Rattle.module_table.specs.Prelude.{RuleValue, Has, by_name, by_file, rows_of, IsUnlinked, IsApart}
use Rattle.module_table.proofs.PoolLemmas.{below_next, below_all, if_none, unlinked}
use Rattle.module_table.proofs.pool.links.Links.are_apart.Goals as goal
use Rattle.module_table.proofs.Words.{Pair}

pub loop-pair-preserved : goal.loop-pair-preserved
loop-pair-preserved c =
    let links = c.args.self.now in
    let listed = c.args.listed.now in
    let i = c.loop-pair.pair-index in
    let provided = c.deref-pair-items.result.now in
    let pair = c.pair-item.result in
    let at = slice_get_read provided _ i pair refl c.loop-pair-test.true c.pair-item.is in
    let Unlinked = IsUnlinked c.args.self.now.linked.now in
    below_next (λ (pair : Pair). Unlinked (rows_of listed by_name) pair.0 × Unlinked (rows_of listed by_file) pair.1) provided i pair at
    c.loop-pair.invariant (
      unlinked links.linked.now (rows_of listed by_name) pair.0 _ c.get-in-loop-pair.ensures.value
          (if_none _ _ (sym c.is_some-in-loop-pair.ensures ∙ c.if-is_some-2.false) c.module_of-in-loop-pair.ensures),
      unlinked links.linked.now (rows_of listed by_file) pair.1 _ c.get-else-is_some-2.ensures.value
          (if_none _ _ (sym c.is_some-else-is_some-2.ensures ∙ c.if-is_some-3.false) c.module_of-else-is_some-2.ensures),
    )

pub loop-rule-preserved : goal.loop-rule-preserved
loop-rule-preserved c =
    let links = c.args.self.now in
    let listed = c.args.listed.now in
    let i = c.loop-rule.rule-index in
    let rule = c.rule-item.result in
    let Unlinked = IsUnlinked c.args.self.now.linked.now in
    let Apart : Pair → Type 0 = λ pair. Unlinked (rows_of listed by_name) pair.0 × Unlinked (rows_of listed by_file) pair.1 in
    below_next (IsApart links.linked.now listed) c.args.objects.now i rule
    (slice_get_read c.args.objects.now _ i rule refl c.loop-rule-test.true c.rule-item.is) c.loop-rule.invariant (record {
      path = unlinked links.linked.now (rows_of listed by_file) rule.object _
          (rw (sym (ap (λ (r : RuleValue). r.object) c.rule.view_is)) c.get.ensures.value)
          (if_none _ _ (sym c.is_some.ensures ∙ c.if-is_some.false) c.module_of.ensures);
      provided =
          let list : c.deref-pair-items.result.now ≡ rule.provided = c.deref-pair-items.ensures.value ∙ ap (λ (r : RuleValue). r.provided) c.rule.view_is in
          subst (λ (pairs : List Pair). (pair : Pair) → Has pairs pair → Apart pair) list
          (below_all Apart c.deref-pair-items.result.now c.loop-pair.pair-index c.loop-pair-test.false c.loop-pair.invariant);
    })

pub returns : goal.returns
returns c = λ is o rule at. below_all (IsApart c.args.self.now.linked.now c.args.listed.now) c.args.objects.now
    c.loop-rule.rule-index c.loop-rule-test.false c.loop-rule.invariant rule (o, at)
