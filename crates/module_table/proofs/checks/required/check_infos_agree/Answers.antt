use Rattle.std.proofs.Common.{◌∙◌, List, ap, sym, true≢false}
use Rattle.std.proofs.lemmas.Bool.{not-true, not-false}
use Rattle.module_table.specs.Prelude.{bytes_decides, Name, provisions, info_requirements, Agrees, Reports}
use Rattle.module_table.proofs.Lists.{read_at, accepts_next}
use Rattle.module_table.proofs.Found.{for_boxed}
use Rattle.module_table.proofs.Places.{required_there}
use Rattle.module_table.proofs.Passing.{reports_info_disagrees, no_module, module_there, only_module}
use Rattle.module_table.proofs.Words.{bmi_of}
use Rattle.module_table.proofs.checks.required.check_infos_agree.Goals as goal

pub loop-required-preserved-in_default : goal.loop-required-preserved-in_default
loop-required-preserved-in_default c =
    let t = c.args.modules.now in
    let i = c.loop-required.required-index in
    let at = read_at c.args.all.now i c.loop-required-test.true c.required-item.is in
    accepts_next (Agrees (provisions t)) (info_requirements t) i (required_there t c.requires.all i at) c.loop-required.invariant
    (λ k p named. absurd (no_module t c.requires.all i at c.in_default.is k p named))

pub loop-required-preserved : goal.loop-required-preserved
loop-required-preserved c =
    let t = c.args.modules.now in
    let i = c.loop-required.required-index in
    let at = read_at c.args.all.now i c.loop-required-test.true c.required-item.is in
    accepts_next (Agrees (provisions t)) (info_requirements t) i (required_there t c.requires.all i at) c.loop-required.invariant
    (λ k p named. ap bmi_of (only_module t c.requires.all i at c.in-Some.is k p named) ∙ (bytes_decides _ _).0 (not-false _ (sym c.ne.ensures ∙ c.if-ne.false)))

pub returns-then-ne-clause-fault : goal.returns-then-ne-clause-fault
returns-then-ne-clause-fault c =
    let t = c.args.modules.now in
    let i = c.loop-required.required-index in
    let at = read_at c.args.all.now i c.loop-required-test.true c.required-item.is in
    let found = module_there t c.requires.all i at c.in-Some.is in
    for_boxed (λ fault. (kept : List Name) → Reports 7 t kept fault) _ _
    (λ kept. reports_info_disagrees t kept i c.requires.all.differ c.requires.known c.loop-required.invariant (required_there t c.requires.all i at)
    (found.0, _, found.1, λ same. true≢false (sym ((bytes_decides _ _).1 same) ∙ not-true _ (sym c.ne.ensures ∙ c.if-ne.true)))
    (cc (c.in_ok-copy.ensures, c.in_ok-copy-2.ensures, c.in_ok-copy-3.ensures))) c.failure_of.ensures
