use Rattle.std.proofs.Common.{rules, ◌≡◌, ◌∙◌, sym, arith}
use Rattle.commands.proofs.Targets.{none_passed, one_passed, passes_within}
use Rattle.commands.proofs.shared_lists.passed_together.Goals as goal

pub loop-indexes-init : goal.loop-indexes-init
loop-indexes-init c = (
  none_passed c.args.targets.now c.args.outs.now c.in_ok-passed.passed.items (c.in_ok-passed.ensures.items_if_clones_equal (λ y same. same)),
  search rules,
  search rules,
)

pub loop-index-init : goal.loop-index-init
loop-index-init c =
    let same : c.deref-in-loop-indexes.result.now ≡ c.deref-index-items.result.now = c.deref-in-loop-indexes.ensures.value ∙ sym c.deref-index-items.ensures.value in
    (c.loop-indexes.invariant.0, rw same at (c.in_ok-pass_together.ensures c.if-branch.true), c.loop-indexes.invariant.1, c.loop-indexes.invariant.2)

pub index_mut-requires : goal.index_mut-requires
index_mut-requires c =
    let at = passes_within c.args.targets.now c.args.outs.now _ (c.loop-index.invariant.1 c.loop-index.index-index 0 c.loop-index-test.true) in
    omega (arith, at, c.loop-index.invariant.0.0)

pub loop-index-preserved : goal.loop-index-preserved
loop-index-preserved c = (
  one_passed c.args.targets.now c.args.outs.now c.loop-index.passed.items _ c.loop-index.invariant.0
      (c.loop-index.invariant.1 c.loop-index.index-index 0 c.loop-index-test.true),
  c.loop-index.invariant.1,
  c.loop-index.invariant.2,
  c.loop-index.invariant.3,
)
