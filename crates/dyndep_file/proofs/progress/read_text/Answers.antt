use Rattle.std.proofs.Common.{sym, ap, subst, None, Some, Option, ◌∙◌}
use Rattle.dyndep_file.specs.Prelude.{is_some, codes, SeenAssignment, assignment_of, seen_line, symbols_left, Blank, IsDyndepLine, indented_fault, value_assigned, unindented_fault, ProgressValue, PassesOr, IsBuildOf, IsBindingOf, IsVersionLineOf, NoneOpen}
use Rattle.dyndep_file.proofs.LineLemmas.{passes_as, blank_stays, build_line_fault, build_line_class, indented_line_fault, binding_class, unindented_line_fault, version_class}
use Rattle.dyndep_file.proofs.progress.read_text.Goals as goal

pub returns-in_default : goal.returns-in_default
returns-in_default c = (
  Blank,
  rw c.in-Ok-Blank.field-0-is at c.in-Ok-Blank.ensures,
  blank_stays c.args.progress.now.stage c.args.progress.now.statements
      (λ e. c.in_default.not-Open (ap (λ (p : ProgressValue). p.stage) c.progress.view_is ∙ e)),
)

pub returns-in-Open : goal.returns-in-Open
returns-in-Open c = (
  Blank,
  rw c.in-Ok-Blank.field-0-is at c.in-Ok-Blank.ensures,
  rw (ap (λ (p : ProgressValue). p.stage) (sym c.progress.view_is) ∙ c.in-Open.is)
      (ap (λ (p : ProgressValue). Some (record { stage = NoneOpen; statements = p.statements })) (sym c.progress.view_is)),
)

pub returns-in-Ok-Build : goal.returns-in-Ok-Build
returns-in-Ok-Build c =
    let line = seen_line c.args.line in
    let more = symbols_left c.in-Ok-Build.tokens in
    let form = rw c.in-Ok-Build.field-0-is at c.in-Ok-Build.ensures in
    passes_as (IsBuildOf more) (IsDyndepLine line.text line.comment) c.args.progress.now c.build_line.result c.build_line.new.progress
    (build_line_fault line form.0 more form.1 c.args.progress.now.stage) (build_line_class line form.0 more form.1) c.build_line.ensures

pub returns-in-Ok-Indented : goal.returns-in-Ok-Indented
returns-in-Ok-Indented c =
    let line = seen_line c.args.line in
    let old = c.args.progress.now in
    let new = c.indented_line.new.progress in
    let form = rw c.in-Ok-Indented.field-0-is at c.in-Ok-Indented.ensures in
    passes_as (IsBindingOf (assignment_of line.text)) (IsDyndepLine line.text line.comment) old c.indented_line.result new
    (indented_line_fault line form.0 form.1 old.stage) (binding_class line form.0 form.1)
    (subst (λ (o : Option SeenAssignment).
    PassesOr (indented_fault old.stage (is_some (value_assigned (codes "restat") o))) (IsBindingOf o) old c.indented_line.result new)
    form.2 c.indented_line.ensures)

pub returns-in-Ok-Unindented : goal.returns-in-Ok-Unindented
returns-in-Ok-Unindented c =
    let line = seen_line c.args.line in
    let old = c.args.progress.now in
    let new = c.unindented_line.new.progress in
    let form = rw c.in-Ok-Unindented.field-0-is at c.in-Ok-Unindented.ensures in
    passes_as (IsVersionLineOf (assignment_of line.text)) (IsDyndepLine line.text line.comment) old c.unindented_line.result new
    (unindented_line_fault line form.0 form.1 form.2 old.stage) (version_class line form.0)
    (subst (λ (o : Option SeenAssignment).
    PassesOr (unindented_fault old.stage (value_assigned (codes "ninja_dyndep_version") o) None) (IsVersionLineOf o) old c.unindented_line.result new)
    form.3 c.unindented_line.ensures)
