use Rattle.std.proofs.Common.{List, ℕ, refl}
use Rattle.commands.specs.Prelude.{ForFault, Failure, StatementValue, EdgeValue, HasNoEffect, OnlyEffect, IsEffectFault, EffectFault, IsWithoutEffect, effect_error}
use Rattle.ninja_text.specs.declared.failure.Failure.TheVariants.{Memory, Fault}
use Rattle.commands.proofs.Outcomes.{fault_reported}
use Rattle.commands.proofs.edges.graph_after.Goals as goal

-- why statements have no effect
without : (old : List EdgeValue) (name : List ℕ) (statements : List StatementValue) (failure : Failure EffectFault) →
    ForFault (IsEffectFault old name statements) failure → ForFault {F = EffectFault} (λ _. HasNoEffect old name statements) failure →
    ForFault (IsWithoutEffect old name statements) failure
without old name statements Memory reason none = tt
without old name statements (Fault fault) reason none = record { reason = reason; none = none }

pub returns-in-Ok : goal.returns-in-Ok
returns-in-Ok c = (refl, c.in-Ok.ensures.effect)

pub returns-in-Err : goal.returns-in-Err
returns-in-Err c =
    let old = c.args.old.now in
    let name = c.args.name.now in
    let statements = c.args.dyndep.now in
    fault_reported (OnlyEffect old name statements) (IsWithoutEffect old name statements) effect_error c.in-Err.failure c.of_effect.result
    (without old name statements c.in-Err.failure c.in-Err.ensures.fault c.in-Err.ensures.no_effect) c.of_effect.ensures
