use Rattle.std.proofs.Common.{sym, ap, subst, Option}
use Rattle.build_effect.specs.Prelude.{SeenAssignment, seen_line, TakesRow, binding_row, row_cause}
use Rattle.build_effect.proofs.ListingLineLemmas.{faulty_row, build_line_row, indented_row, other_row}
use Rattle.build_effect.proofs.listing.take_line.Goals as goal

pub returns-in-Err : goal.returns-in-Err
returns-in-Err c =
    let line = seen_line c.args.line in
    ap (row_cause c.args.state.now.binding) (faulty_row line.text c.in-Err.ensures.0 c.in-Err.ensures.1)

pub returns-in-Ok-Build : goal.returns-in-Ok-Build
returns-in-Ok-Build c =
    let form = rw c.in-Ok-Build.field-0-is at c.in-Ok-Build.ensures in
    subst (λ row. TakesRow c.args.state.now row c.build_line.result c.build_line.new.state)
    (sym (build_line_row (seen_line c.args.line) form.0 form.1)) c.build_line.ensures

pub returns-in-Ok-Indented : goal.returns-in-Ok-Indented
returns-in-Ok-Indented c =
    let form = rw c.in-Ok-Indented.field-0-is at c.in-Ok-Indented.ensures in
    subst (λ row. TakesRow c.args.state.now row c.binding_line.result c.binding_line.new.state) (sym (indented_row (seen_line c.args.line) form.0 form.1))
    (subst (λ (found : Option SeenAssignment). TakesRow c.args.state.now (binding_row found) c.binding_line.result c.binding_line.new.state) form.2
    c.binding_line.ensures)

pub returns-in-Ok-Unindented : goal.returns-in-Ok-Unindented
returns-in-Ok-Unindented c =
    let form = rw c.in-Ok-Unindented.field-0-is at c.in-Ok-Unindented.ensures in
    ap (row_cause c.args.state.now.binding) (other_row (seen_line c.args.line) form.0 form.1 form.2)
