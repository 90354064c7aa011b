use Rattle.std.proofs.Common.{◌≡◌, ◌+◌, [], take, ap, sym, subst, arith}
use Rattle.std.proofs.lemmas.Option.{slice_get-get_or}
use Rattle.build_effect.specs.Prelude.{ArePaths, BadPath}
use Rattle.build_effect.proofs.PathTexts.{more_paths, first_bad}
use Rattle.build_effect.proofs.effect.canonical_paths.Goals as goal

pub returns-in-Err-Fault-clause-fault : goal.returns-in-Err-Fault-clause-fault
returns-in-Err-Fault-clause-fault c =
    let texts = c.args.strings.now in
    let i = c.loop-path.path in
    let same : i ≡ 0 + i = omega arith in
    let bad =
    first_bad texts c.loop-path.paths.items i c.args.statement 0 _
    (slice_get-get_or texts i [] (omega (arith, c.loop-path-test.true, c.len-count.ensures))) c.loop-path.invariant
    (c.in-Err-Fault.fault, rw c.in-Err-Fault.field-0-is at c.in-Err-Fault.ensures, ap (λ n. BadPath c.args.statement n c.in-Err-Fault.fault) same) in
    rw c.in-Err-Fault.field-0-is bad

pub loop-path-preserved : goal.loop-path-preserved
loop-path-preserved c =
    let texts = c.args.strings.now in
    let i = c.loop-path.path in
    subst (ArePaths (take (i + 1) texts)) (sym c.in_ok-push-in-Ok.ensures.items)
    (more_paths texts c.loop-path.paths.items i
    (slice_get-get_or texts i [] (omega (arith, c.loop-path-test.true, c.len-count.ensures)))
    c.loop-path.invariant c.in-Ok.ensures)
