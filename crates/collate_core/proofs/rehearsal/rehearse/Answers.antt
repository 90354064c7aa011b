use Rattle.std.proofs.Common.{rules, List, IfOk, IfErr, subst, sym}
use Rattle.std.proofs.lemmas.Result.{IfOk-weaker, IfErr-weaker}
use Rattle.collate_core.specs.Prelude.{Text, ForFault, Failure, Memory, Fault, StatementValue, StandsFor, StandsForOnly, IsReadFaultOf, OneList, NotBoth, ReadFault, AtLine, Io, EdgeValue, OnlyEffect, HasEffect, IsWithoutEffect, IsRehearseFault, ForEffect, RehearseFault, Read}
use Rattle.collate_core.specs.declared.fault.RehearseFault.TheVariants.{Effect}
use Rattle.collate_core.proofs.rehearsal.rehearse.Goals as goal

only : OneList → (text : Text) (statements : List StatementValue) → StandsFor text statements → StandsForOnly text statements
only one text statements h = record { stands = h; only = λ others k. one text others statements k h }

none : NotBoth → {text : Text} (fault : ReadFault) → IsReadFaultOf text fault → (statements : List StatementValue) → StandsFor text statements → ⊥
none not_both {text} (AtLine line fault) reported statements h = not_both text statements (record { line = line; fault = fault }) h reported
none not_both {text} Io reported statements h = reported

lacks : (text name : Text) (old : List EdgeValue) {statements : List StatementValue} → StandsForOnly text statements → (failure : Failure RehearseFault) →
    ForFault (ForEffect (IsWithoutEffect old name statements)) failure → ForFault (IsRehearseFault text name old) failure
lacks text name old {statements} stands Memory h = tt
lacks text name old {statements} stands (Fault (Effect fault)) h = (statements, stands, h)
lacks text name old {statements} stands (Fault (Read fault)) h = absurd h

pub returns-in-Ok-clause-effect : goal.returns-in-Ok-clause-effect
returns-in-Ok-clause-effect c =
    let statements = c.in-Ok.dyndep in
    let effect : IfOk c.map_err.result (OnlyEffect c.args.graph.now c.args.name.now statements) = search rules in
    IfOk-weaker c.map_err.result (OnlyEffect c.args.graph.now c.args.name.now statements) (HasEffect c.args.text.now c.args.name.now c.args.graph.now)
    (λ new h. (statements, only c.a_text_stands_for_one_list.ensures c.args.text.now statements c.in-Ok.ensures.read, h))
    effect

pub returns-in-Ok-clause-fault : goal.returns-in-Ok-clause-fault
returns-in-Ok-clause-fault c =
    let statements = c.in-Ok.dyndep in
    let fault : IfErr c.map_err.result (ForFault (ForEffect (IsWithoutEffect c.args.graph.now c.args.name.now statements))) = search rules in
    IfErr-weaker c.map_err.result (ForFault (ForEffect (IsWithoutEffect c.args.graph.now c.args.name.now statements)))
    (ForFault (IsRehearseFault c.args.text.now c.args.name.now c.args.graph.now))
    (lacks c.args.text.now c.args.name.now c.args.graph.now (only c.a_text_stands_for_one_list.ensures c.args.text.now statements c.in-Ok.ensures.read))
    fault

pub returns-in-Err-Fault-clause-fault : goal.returns-in-Err-Fault-clause-fault
returns-in-Err-Fault-clause-fault c =
    let reported = subst (ForFault (IsReadFaultOf c.args.text.now)) c.in-Err-Fault.field-0-is c.in-Err-Fault.ensures.refused in (
      subst (IsReadFaultOf c.args.text.now) (sym c.in-Err-Fault.fault-is) reported,
      none c.a_text_stands_for_a_list_or_has_a_fault.ensures.not_both c.in-Err-Fault.fault reported,
    )
