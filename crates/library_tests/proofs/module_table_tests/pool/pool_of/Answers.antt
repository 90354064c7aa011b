use Rattle.std.proofs.Common.{◌∙◌, List, All, sym, subst}
use Rattle.std.specs.List.{flat_map}
use Rattle.std.specs.Vec.Iter.{into_iter_items}
use Rattle.table_keys.specs.Keys.{Covers, IsKeyOf}
use Rattle.table_keys.specs.declared.TableKey.{TableKey}
use Rattle.document_values.specs.Info.{InfoValue}
use Rattle.module_table.specs.Pool.{pool_entries}
use Rattle.library_tests.proofs.Covering.{covers_each, of_taken, of_rest}
use Rattle.library_tests.proofs.module_table_tests.pool.pool_of.Goals as goal

pub loop-init : goal.loop-init
loop-init c =
    let key = c.new-pool.result.key in
    let all = c.deref.result.now in
    let made : IsKeyOf key (flat_map pool_entries all) =
    subst (λ (key : TableKey). IsKeyOf key (flat_map pool_entries all)) (sym c.new-pool.ensures.key) c.key_of.ensures in
    subst (λ (infos : List InfoValue). All (λ info. Covers key (pool_entries info)) infos) (c.deref.ensures.value ∙ sym c.into_iter-rest.ensures.rest)
    (covers_each key all made)

pub push-requires : goal.push-requires
push-requires c = of_taken (λ info. Covers c.loop.pool.key (pool_entries info)) c.next.result _ _ c.next.ensures.items c.loop.invariant

pub loop-preserved : goal.loop-preserved
loop-preserved c = subst (λ (key : TableKey). All (λ info. Covers key (pool_entries info)) (into_iter_items c.next.new.self)) (sym c.in_ok-pool.ensures.key)
    (of_rest (λ info. Covers c.loop.pool.key (pool_entries info)) c.next.result _ _ c.next.ensures.items c.loop.invariant)
