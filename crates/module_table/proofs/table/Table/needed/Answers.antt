use Rattle.std.proofs.Common.{◌∙◌, ap, map, subst, sym, take_all}
use Rattle.module_table.specs.Prelude.{TableValue, ArePairs, IsNeeded, lent}
use Rattle.module_table.proofs.Lists.{maps_next, read_at}
use Rattle.module_table.proofs.table.Table.needed.Goals as goal

pub returns : goal.returns
returns c =
    subst (ArePairs (IsNeeded c.args.self.now c.args.object))
    (sym (c.loop-pair.invariant ∙
    ap (map lent) (take_all c.loop-pair.pair-index c.deref-pair-items.result.now c.loop-pair-test.false ∙ c.deref-pair-items.ensures.value)))
    (subst (λ (t : TableValue). ArePairs (IsNeeded t c.args.object) (map lent c.in_ok-pairs.pairs.items)) c.in_ok-needs.ensures c.in_ok-pairs.ensures.pairs)

pub loop-pair-preserved : goal.loop-pair-preserved
loop-pair-preserved c =
    let pairs = c.deref-pair-items.result.now in
    let i = c.loop-pair.pair-index in
    let pair = c.pair-item.result in
    let copied = ap (λ name. (name, c.in_ok-copy_pair.field-0.1)) c.in_ok-copy_pair.ensures.name ∙
    ap (λ file. (pair.0.now, file)) c.in_ok-copy_pair.ensures.file in
    maps_next lent pairs i (read_at pairs i c.loop-pair-test.true c.pair-item.is) c.loop-pair.invariant c.in_ok-push.ensures.items copied
