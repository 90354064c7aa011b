use Rattle.std.proofs.Common.{◌≡◌, ◌∙◌, sym, ap, refl, None, Some}
use Rattle.dyndep_file.specs.Prelude.{codes, option_map, seen_assignment, value_of, Version, is_version_one, ProgressValue, BeforeVersion, NoneOpen}
use Rattle.dyndep_file.proofs.LineLemmas.{has_name, unindented_version}
use Rattle.dyndep_file.proofs.progress.unindented_line.Goals as goal
use Rattle.dyndep_file.proofs.progress.unindented_line.Goals.{After-is_version_one}

-- the assignment begins at the first byte of the line, and is to the version
assigned : (c : After-is_version_one) → let a = seen_assignment c.in-Some.version in
    ((option_map seen_assignment c.args.found ≡ Some a) × (a.name ≡ codes "ninja_dyndep_version")) × (a.name_start ≡ 0) ×
    (is_version_one (value_of a.raw_value) ≡ c.is_version_one.result)
assigned c = (
  has_name (codes "ninja_dyndep_version") _ _ c.in-Some.ensures,
  sym c.name_start.ensures ∙ c.if-name_start-eq0.true,
  ap is_version_one (sym (c.deref.ensures.value ∙ c.in_ok-value.ensures)) ∙ sym c.is_version_one.ensures,
)

pub returns-then-not-is_version_one : goal.returns-then-not-is_version_one
returns-then-not-is_version_one c =
    let a = assigned (goal.at.returns-then-not-is_version_one c).After-is_version_one in
    let stage : c.args.progress.now.stage ≡ BeforeVersion = ap (λ (p : ProgressValue). p.stage) (sym c.progress.view_is) ∙ c.in-BeforeVersion-stage.is in
    unindented_version c.args.progress.now.stage None _ (seen_assignment c.in-Some.version) a.0.0 a.0.1 a.1 ∙ rw (stage, a.2, c.if-not-is_version_one.true) refl

pub returns : goal.returns
returns c =
    let a = assigned (goal.at.returns c).After-is_version_one in
    let stage = ap (λ (p : ProgressValue). p.stage) (sym c.progress.view_is) ∙ c.in-BeforeVersion-stage.is in (
      Version,
      (seen_assignment c.in-Some.version, a.0.0, a.1, a.0.1, (refl, a.2 ∙ c.if-not-is_version_one.false)),
      rw stage (ap (λ (p : ProgressValue). Some (record { stage = NoneOpen; statements = p.statements })) (sym c.progress.view_is)),
    )
