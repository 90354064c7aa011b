use Rattle.std.proofs.Common.{[], sym, get_or, take, slice_get, Some, ℕ, List}
use Rattle.module_table.specs.Prelude.{Bor, pair_in, pairs_of}
use Rattle.std.proofs.lemmas.Option.{slice_get-get_or}
use Rattle.module_table.proofs.Lists.{pushes_next, read_at}
use Rattle.module_table.proofs.needed.pairs_at.Goals as goal
use Rattle.ninja_text.proofs.ForCallers.{take_next, to_map}

pub loop-index-preserved : goal.loop-index-preserved
loop-index-preserved c =
    let modules = c.args.modules.now in
    let xs = c.args.indexes.now in
    let i = c.loop-index.index-index in
    let index = get_or xs i 0 in
    let m = c.index-modules-index.result in
    pushes_next (λ (p : Bor (List ℕ) × Bor (List ℕ)). Some p) (slice_get (pairs_of modules)) (take i xs) index
    [] c.loop-index.found.items (pair_in m)
    (take_next xs i index (slice_get-get_or xs i 0 c.loop-index-test.true)) c.loop-index.invariant c.in_ok-push.ensures.items
    (sym (to_map pair_in modules index m (read_at modules index (c.requires i 0 c.loop-index-test.true) c.index-modules-index.is)))
