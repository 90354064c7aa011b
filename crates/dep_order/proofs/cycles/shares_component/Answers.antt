use Rattle.std.proofs.Common.{sym, ◌∙◌, arith}
use Rattle.std.proofs.lemmas.Bool.{false≢true}
use Rattle.std.proofs.lemmas.List.{take_all}
use Rattle.dep_order.proofs.Connected.{none_shared_more, other_marks}
use Rattle.dep_order.proofs.cycles.shares_component.Goals as goal

pub loop-other-preserved : goal.loop-other-preserved
loop-other-preserved c =
    none_shared_more c.args.row.now c.args.components.now c.args.node c.loop-other.other-index c.loop-other-test.true
    (other_marks
    (sym c.eq.ensures ∙ c.if-eq.false)) c.loop-other.invariant

pub returns : goal.returns
returns c = (
  (λ yes. absurd (false≢true yes)),
  (λ h. absurd (c.loop-other.invariant (rw (take_all c.loop-other.other-index c.args.row.now (omega arith)) h))),
)
