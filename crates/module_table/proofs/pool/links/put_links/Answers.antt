use Rattle.std.proofs.Common.{◌∙◌, ap, get_or, Some, arith}
use Rattle.std.proofs.lemmas.Option.{slice_get-get_or, slice_get_read}
use Rattle.module_table.proofs.PoolLemmas.{each_next, each_all}
use Rattle.module_table.proofs.pool.links.put_links.Goals as goal
use Rattle.module_table.proofs.Words.{At}

pub loop-index-2-preserved : goal.loop-index-2-preserved
loop-index-2-preserved c =
    let linked = c.args.linked.now in
    let k = c.loop-index-2.index in
    each_next (λ k n. At c.loop-index.indexes.items n k) linked k (get_or linked k 0)
    (slice_get-get_or linked k 0 c.loop-index-2-test.true) c.loop-index-2.invariant
    (slice_get_read c.loop-index.indexes.items _ (get_or linked k 0) c.index.result.now
    (omega (arith, c.len-in-loop-index-2.ensures, c.loop-index.indexes.ok.0)) c.if-info-len-2.false c.index.ensures ∙ ap Some c.if-index.false)

pub returns : goal.returns
returns c = λ is. each_all (λ k n. At c.loop-index.indexes.items n k) c.args.linked.now c.loop-index-2.index c.loop-index-2-test.false
    c.loop-index-2.invariant
