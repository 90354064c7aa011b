use Rattle.std.proofs.Common.{length, All, IsTrue}
use Rattle.std.proofs.lemmas.Result.{IfOk-weaker}
use Rattle.build_effect.specs.Prelude.{IsOrderable, HasOrderAfter, EdgeNeeds}
use Rattle.build_effect.proofs.Unions.{orders_each}
use Rattle.build_effect.proofs.files.orders_after_each.Goals as goal

pub returns-in-Ok : goal.returns-in-Ok
returns-in-Ok c =
    IfOk-weaker c.has_order.result (λ has. IsTrue has → IsOrderable (length c.in-Ok.union) (EdgeNeeds c.in-Ok.union))
    (λ passes. IsTrue passes → All (HasOrderAfter c.args.graph.now) c.args.files.now) (λ has ordered so. orders_each c.args.graph.now c.in-Ok.union c.args.files.now c.in-Ok.ensures (ordered so))
    c.has_order.ensures
