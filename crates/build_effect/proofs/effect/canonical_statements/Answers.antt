use Rattle.std.proofs.Common.{◌≡◌, ◌+◌, length, take, refl, ap, sym, subst, arith}
use Rattle.std.proofs.lemmas.Result.{err_from_is_err_and}
use Rattle.std.proofs.lemmas.List.{length-map}
use Rattle.std.proofs.lemmas.Option.{slice_get_read}
use Rattle.build_effect.specs.Prelude.{StatementValue, ArePaths, AreCanonical, IsBadTextFrom, IsBadStatement}
use Rattle.build_effect.proofs.Lists.{for_fault}
use Rattle.build_effect.proofs.PathTexts.{canonical_of, more_statements, first_bad_statement}
use Rattle.build_effect.proofs.effect.canonical_statements.Goals as goal

pub returns-in_err-paths-clause-fault : goal.returns-in_err-paths-clause-fault
returns-in_err-paths-clause-fault c =
    let ss = c.args.statements.now in
    let i = c.loop-index.index in
    let s = c.index-statements-index.result in
    let at = slice_get_read ss _ i s refl c.loop-index-test.true c.index-statements-index.is in
    let p = err_from_is_err_and c.from_residual-in_err-paths.result c.from_residual-in_err-paths.ensures.1 in
    rw (p.1, p.2) (for_fault (IsBadTextFrom c.in_ok-strings.strings i 0) (IsBadStatement ss)
    (λ fault bad. first_bad_statement ss c.loop-index.additions.items at c.loop-index.invariant
    (subst (λ texts. IsBadTextFrom texts i 0 fault) c.in_ok-strings.ensures bad)) _ c.in_err-paths.ensures.fault)

pub loop-index-preserved : goal.loop-index-preserved
loop-index-preserved c =
    let ss = c.args.statements.now in
    let i = c.loop-index.index in
    let s = c.index-statements-index.result in
    let at = slice_get_read ss _ i s refl c.loop-index-test.true c.index-statements-index.is in
    let are = subst (λ texts. ArePaths texts c.in_ok-paths.paths.items) c.in_ok-strings.ensures c.in_ok-paths.ensures.paths in
    let many =
    ap (λ (x : StatementValue). length x.implicit_outputs) c.statement.view_is in
    let end : 1 + c.len.result ≡ 1 + length s.implicit_outputs =
    omega (arith, many, c.len.ensures, length-map c.statement.inside.implicit_outputs.items (λ t. t.items)) in
    subst (AreCanonical (take (i + 1) ss)) (sym c.in_ok-push.ensures.items)
    (more_statements ss c.loop-index.additions.items i at c.loop-index.invariant
    (canonical_of s c.in_ok-paths.paths.items (1 + c.len.result) are end (ap (λ (x : StatementValue). x.restat) (sym c.statement.view_is))))
