use Rattle.std.proofs.Common.{rules, ap, sym, subst, ◌∙◌}
use Rattle.module_maps.specs.Prelude.{bytes_eq, Gives, clang_read, clang_entries, is-provided}
use Rattle.module_maps.proofs.ClangTexts.{clang-only}
use Rattle.module_maps.proofs.LinesOnly.{of-result}
use Rattle.module_maps.proofs.styles.ClangMapStyle.read.Goals as goal

pub returns-clause-entries : goal.returns-clause-entries
returns-clause-entries c =
    let first = c.in-Some.first.now in
    let rest = c.in-Some.rest.now in
    let flag = ap (bytes_eq first) (sym c.as_slice.ensures) ∙ sym c.eq.ensures ∙ c.if-eq.true in
    let same = sym (ap clang_read c.in-Some.ensures.lines ∙ is-provided first rest flag) in
    subst (Gives (λ found. found.items) c.read_provided.result) same c.read_provided.ensures

pub returns-clause-written : goal.returns-clause-written
returns-clause-written c = of-result _ _ (clang-only c.args.text.now) c.read_provided.result (returns-clause-entries c)

pub returns-2-clause-written : goal.returns-2-clause-written
returns-2-clause-written c =
    let gives : Gives (λ found. found.items) c.read_lines.result (clang_entries c.args.text.now) = search rules in
    of-result _ _ (clang-only c.args.text.now) c.read_lines.result gives
