use Rattle.std.proofs.Common.{◌≡◌, ◌+◌, Some, None, ap, sym, ◌∙◌, arith}
use Rattle.module_maps.specs.Prelude.{read_lines, lines_of, line-read, line-bad}
use Rattle.module_maps.proofs.map_lines.read_lines.Goals as goal

pub returns-in-None : goal.returns-in-None
returns-in-None g c =
    let form = g.F.LineForm.form c.args.form.now in
    let entries = c.loop-first.entries.items in
    let bad : form entries c.in-Some.first.now ≡ None = ap (λ xs. form xs c.in-Some.first.now) (sym c.deref.ensures.value) ∙ sym c.in_ok-entry.ensures ∙
    c.in-None.is in
    c.loop-first.invariant.same ∙ ap (read_lines form entries c.loop-first.line) c.in-Some.ensures.lines ∙
    line-bad form entries c.loop-first.line c.in-Some.first.now c.in-Some.more.now bad

pub loop-first-preserved : goal.loop-first-preserved
loop-first-preserved g c =
    let form = g.F.LineForm.form c.args.form.now in
    let entries = c.loop-first.entries.items in
    let good : form entries c.in-Some.first.now ≡ Some c.in-Some-2.entry = ap (λ xs. form xs c.in-Some.first.now) (sym c.deref.ensures.value) ∙
    sym c.in_ok-entry.ensures ∙ c.in-Some-2.is in
    record {
      same = c.loop-first.invariant.same ∙ ap (read_lines form entries c.loop-first.line) c.in-Some.ensures.lines ∙
          line-read form entries c.loop-first.line c.in-Some.first.now c.in-Some.more.now c.in-Some-2.entry good
          ∙ ap (λ es. read_lines form es (c.loop-first.line + 1) (lines_of c.in-Some.more.now)) (sym c.in_ok-push-in-Some-2.ensures.items);
      bound = omega (arith, c.loop-first.invariant.bound, c.in-Some.ensures.less);
    }
