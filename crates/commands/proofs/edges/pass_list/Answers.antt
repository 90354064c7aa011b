use Rattle.std.proofs.Common.{◌≡◌, ℕ, List, [], length, refl, subst, Ok, Err, Vec, Global}
use Rattle.commands.specs.Prelude.{ForFault, IsOrderable, IsSortingOf, Sorting, EdgeValue, EdgeNeeds, HasEffect, LacksEffect, GraphPasses, effect_error, cycle_error, goes_on, stops, refusal}
use Rattle.dep_order.specs.declared.Sorting.TheVariants.{Order, Cycle}
use Rattle.commands.proofs.Outcomes.{last, next, said, fault_reported, Stop}
use Rattle.commands.proofs.edges.pass_list.Goals as goal

-- the edges after the effect have this sorting
abbrev Sorts : List ℕ → List ℕ → List EdgeValue → Sorting → Type 0
Sorts name dyndep old sorting =
    (new : List EdgeValue) × HasEffect dyndep name old new × IsSortingOf (length new) (EdgeNeeds new) sorting

ordered : (name dyndep : List ℕ) (old : List EdgeValue) {sorting : Sorting} {order : Vec ℕ Global} → sorting ≡ Order order → Sorts name dyndep old sorting →
    GraphPasses old name dyndep [] (Ok tt)
ordered name dyndep old {sorting} {order} e (new, effect, is) =
    let orderable = rw e at is in goes_on new [] [] refl (refl, effect) (refl, orderable.0)

cyclic : (name dyndep : List ℕ) (old : List EdgeValue) (cycle : Vec ℕ Global) (stop : Stop) → Sorts name dyndep old (Cycle cycle) →
    ForFault (λ l. l ≡ refusal (cycle_error old cycle.items)) stop → GraphPasses old name dyndep [] (Err stop)
cyclic name dyndep old cycle stop (new, effect, is) h =
    goes_on new [] [] refl (refl, effect)
    (said (λ (done : Unit {0}). IsOrderable (length new) (EdgeNeeds new)) (λ (c : Vec ℕ Global). IsSortingOf (length new) (EdgeNeeds new) (Cycle c))
    (λ (c : Vec ℕ Global). cycle_error old c.items) cycle stop is h)

pub returns-in_err-graph : goal.returns-in_err-graph
returns-in_err-graph c = last _ c.in_err-graph.ensures c.from_residual.ensures

pub returns-in-Ok-Order : goal.returns-in-Ok-Order
returns-in-Ok-Order c =
    next _ c.in_ok-graph.ensures
    (ordered c.args.name.now c.args.collated.now.dyndep c.in_ok-graph.graph.now c.in-Ok-Order.field-0-is c.in-Ok-Order.ensures.sorted)

pub returns-in-Ok-Cycle : goal.returns-in-Ok-Cycle
returns-in-Ok-Cycle c =
    let stop = c.of_cycle.result in
    let old = c.in_ok-graph.graph.now in
    next _ c.in_ok-graph.ensures
    (cyclic c.args.name.now c.args.collated.now.dyndep old c.in-Ok-Cycle.cycle stop
    (rw c.in-Ok-Cycle.field-0-is at c.in-Ok-Cycle.ensures.sorted)
    (subst (λ cycle. ForFault (λ l. l ≡ refusal (cycle_error old cycle)) stop) c.deref.ensures.value c.of_cycle.ensures))

pub returns : goal.returns
returns c =
    let stop = c.of_effect.result in
    let old = c.in_ok-graph.graph.now in
    next _ c.in_ok-graph.ensures
    (stops stop (fault_reported (HasEffect c.args.collated.now.dyndep c.args.name.now old) (LacksEffect c.args.collated.now.dyndep c.args.name.now old)
    effect_error c.in-Err.failure stop c.in-Err.ensures.fault c.of_effect.ensures) refl)
