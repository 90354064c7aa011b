use Rattle.std.proofs.Common.{rules, ◌≡◌, ℕ, ◌<◌, Some, Ok, All, get_or, length, refl, arith, slice_get, string_bytes, IsTrue}
use Rattle.std.proofs.lemmas.List.{take_all}
use Rattle.std.proofs.lemmas.Option.{slice_get_within, slice_get-get_or, slice_get_read}
use Rattle.std.proofs.lemmas.Result.{IfOk-weaker}
use Rattle.commands.specs.Prelude.{IsFileOf, HasOrderAfter, PassesAt, list_named}
use Rattle.commands.proofs.Outcomes.{at_index}
use Rattle.commands.proofs.Targets.{all_together, file_next, is_named}
use Rattle.commands.proofs.shared_lists.pass_together.Goals as goal

pub loop-index-preserved : goal.loop-index-preserved
loop-index-preserved c =
    let targets = c.args.targets.now in
    let outs = c.args.outs.now in
    let i : ℕ = c.loop-index.index-index in
    let index : ℕ = get_or c.args.indexes.now i 0 in
    let within : i < length c.args.indexes.now = c.loop-index-test.true in
    let lookup = c.in-Some-get.ensures.lookup in
    let found : slice_get targets index ≡ Some c.in-Some-get.target.now =
    slice_get_read targets _ index c.in-Some-get.target.now refl lookup.3.0 lookup.1 in
    let inside = slice_get_within targets index _ found in
    let out : slice_get outs index ≡ Some c.index-outs-index.result =
    at_index outs index _ (omega (arith, inside, c.requires.each)) c.index-outs-index.is in
    let own : IsFileOf (string_bytes c.in-Some-Some.edges) c.in-Some-get.target.now c.index-outs-index.result c.in-Some-2.file =
    rw (c.deref-in-loop-index.ensures, c.in-Some-2.is) at c.in_ok-file.ensures in
    file_next (string_bytes c.in-Some-Some.edges) targets outs c.args.indexes.now i index c.loop-index.files.items _ c.in-Some-get.target.now
    c.index-outs-index.result c.in-Some-2.file (slice_get-get_or c.args.indexes.now i 0 within) found out own c.in_ok-files-2.ensures c.loop-index.invariant

pub returns : goal.returns
returns c =
    let targets = c.args.targets.now in
    let outs = c.args.outs.now in
    let indexes = c.args.indexes.now in
    let edges = string_bytes c.in-Some-Some.edges in
    let graph = c.in-Ok.graph in
    let lookup = c.in-Some.ensures.lookup in
    let first : slice_get targets (get_or indexes 0 0) ≡ Some c.in-Some.first.now =
    slice_get_read targets _ (get_or indexes 0 0) c.in-Some.first.now refl lookup.3.0 lookup.1 in
    let named : list_named edges c.in-Some.first.now ≡ Some (Ok graph) = is_named c.in-Some.first.now edges (Ok graph) (search rules) (search rules) in
    let all = take_all c.loop-index.index-index indexes c.loop-index-test.false in
    IfOk-weaker c.orders_after_each.result (λ pass. IsTrue pass → All (HasOrderAfter graph) c.loop-index.files.items)
    (λ pass. IsTrue pass → All (PassesAt targets outs) indexes)
    (λ passes orders yes. all_together edges targets outs indexes c.loop-index.files.items (get_or indexes 0 0) c.in-Some.first.now graph c.requires.lists first
    named (rw all at c.loop-index.invariant) (orders yes)) (rw c.deref-2.ensures.value at c.orders_after_each.ensures)
