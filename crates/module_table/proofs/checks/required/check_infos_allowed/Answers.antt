use Rattle.std.proofs.Common.{rules, tests, ◌≡◌, ◌∙◌, Bool, List, not, ap, sym, true≢false}
use Rattle.module_table.specs.Prelude.{Maker, Object, ℕ, Name, provisions, info_requirements, IsAllowed, Reports, ModulePrivate, Info, is_info_at}
use Rattle.module_table.proofs.Lists.{read_at, accepts_next}
use Rattle.module_table.proofs.Found.{for_fault, info_at_by, info_at_of}
use Rattle.module_table.proofs.Places.{required_there}
use Rattle.module_table.proofs.Passing.{reports_private_info, private_by_infos, no_module, module_there, only_module}
use Rattle.module_table.proofs.Words.{maker_of, privacy_of}
use Rattle.module_table.specs.contracts.fault.MakerPartialEq.TheImpl.{ghosts}
use Rattle.module_table.proofs.checks.required.check_infos_allowed.Goals as goal
use Rattle.module_table.proofs.checks.required.check_infos_allowed.Goals.{else-module-via-then-module+else-ne, else-module-via-else-module}

pub requires_private-requires : goal.requires_private-requires
requires_private-requires c =
    let t = c.args.modules.now in
    let i = c.loop-required.required-index in
    let found = module_there t c.requires.all i (read_at c.args.all.now i c.loop-required-test.true c.required-item.is) c.in-Some.is in
    private_by_infos t found.0 _ found.1.0 c.if-module.true

pub loop-required-preserved-in_default : goal.loop-required-preserved-in_default
loop-required-preserved-in_default c =
    let t = c.args.modules.now in
    let i = c.loop-required.required-index in
    let at = read_at c.args.all.now i c.loop-required-test.true c.required-item.is in
    accepts_next (IsAllowed (provisions t)) (info_requirements t) i (required_there t c.requires.all i at) c.loop-required.invariant
    (λ k p named. absurd (no_module t c.requires.all i at c.in_default.is k p named))

-- whether the module is one of the info file
own : (m : Maker) (i : ℕ) (other : Bool) → other ≡ not (ghosts.eq m (Info i)) → is_info_at m i ≡ not other
own (Object o) i other is = search (rules, tests)
own (Info k) i other is = search (rules, tests)

pub loop-required-preserved : goal.loop-required-preserved
loop-required-preserved c =
    let t = c.args.modules.now in
    let i = c.loop-required.required-index in
    let at = read_at c.args.all.now i c.loop-required-test.true c.required-item.is in
    let only = only_module t c.requires.all i at c.in-Some.is in
    accepts_next (IsAllowed (provisions t)) (info_requirements t) i (required_there t c.requires.all i at) c.loop-required.invariant
    (λ k p named private. elim c.else-module.branch [
      | else-module-via-then-module+else-ne w ↦
          ap maker_of (only k p named) ∙ info_at_by _ _ (own c.in-Some.module.now.maker c.required-item.result.info _ w.ne.ensures ∙ ap not w.if-ne.false)
      | else-module-via-else-module w ↦ absurd (true≢false (sym private ∙ ap privacy_of (only k p named) ∙ w.if-module.false))
    ])

pub returns-then-ne-clause-fault : goal.returns-then-ne-clause-fault
returns-then-ne-clause-fault c =
    let t = c.args.modules.now in
    let i = c.loop-required.required-index in
    let r = c.required-item.result in
    let at = read_at c.args.all.now i c.loop-required-test.true c.required-item.is in
    let found = module_there t c.requires.all i at c.in-Some.is in
    let other = own c.in-Some.module.now.maker r.info _ c.ne.ensures ∙ ap not c.if-ne.true in
    for_fault {Q = λ fault. (kept : List Name) → Reports 9 t kept fault.value} _
    (λ fault is kept. reports_private_info t kept i c.loop-required.invariant (required_there t c.requires.all i at)
    (found.0, _, found.1, c.if-module.true, is.1) (λ e. true≢false (sym (info_at_of _ r.info (is.1 ∙ ap Info e)) ∙ other)) c.requires.public
    (is.2 ∙ ap (λ n. ModulePrivate n is.0 (Info r.info)) found.1.1)) c.requires_private.ensures
