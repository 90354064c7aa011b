use Rattle.std.proofs.Common.{◌≡◌, ◌≤◌, ◌<◌, List, length, Option, Some, None, map, option_copied, refl, sym, ap, ◌∙◌, ℕ, arith}
use Rattle.std.proofs.lemmas.Bool.Decides.{nat_tests}
use Rattle.std.proofs.lemmas.List.{length-map}
use Rattle.scan_docs.specs.Prelude.{Text, option_or, Data, view, placed, Fault, Place, path_checks, text, entries_of, SettingValue, object_of, first_failure}
use Rattle.scan_docs.specs.declared.fault.DocFault.TheVariants.{TooLarge}
use Rattle.scan_docs.specs.declared.fault.Place.TheVariants as place
use Rattle.scan_docs.specs.declared.member.Member.TheVariants as m
use Rattle.scan_docs.specs.ScanChecks.{rule_shape_checks, object_checks, count_checks, count_limit, all_provided_checks, all_required_checks, rule_checks}
use Rattle.scan_docs.proofs.Each.{failure_of_both, stopped}
use Rattle.scan_docs.proofs.scan_document.read_rule.Goals as goal
use Rattle.scan_docs.proofs.scan_document.read_rule.Goals.{In_ok-directory, then-provides-gt-COUNT_LIMIT-via-then-provides-gt-COUNT_LIMIT, then-provides-gt-COUNT_LIMIT-via-else-provides-gt-COUNT_LIMIT+then-requirements-gt-COUNT_LIMIT}

-- the object file of a rule that has an output
module _ (s : SettingValue) (p : Place) (d : Data) (output : Text) (work : Option Text) (has : Some output ≡ text m.PrimaryOutput d)
    (at : work ≡ text m.WorkDirectory d) where
  object_is : object_of s d ≡ placed work s.build_dir output
  object_is = rw (← has, ← at) refl

  object_checked : first_failure (object_checks s p d) ≡ first_failure (path_checks p (placed work s.build_dir output))
  object_checked = rw (← has, ← at) refl

-- lists that are short enough, and one that is not
count_passes : (p : Place) (ps rs : List Data) → length ps ≤ count_limit → length rs ≤ count_limit → first_failure (count_checks p ps rs) ≡ None
unfolding count_checks
count_passes p ps rs a b = grind (arith, nat_tests)

first_long : (p : Place) (ps rs : List Data) → count_limit < length ps → first_failure (count_checks p ps rs) ≡ Some (Fault (TooLarge p))
unfolding count_checks
first_long p ps rs h = grind (arith, nat_tests)

second_long : (p : Place) (ps rs : List Data) → count_limit < length rs → first_failure (count_checks p ps rs) ≡ Some (Fault (TooLarge p))
unfolding count_checks
second_long p ps rs h = grind (arith, nat_tests)

-- the checks of a rule, part by part
parts : (s : SettingValue) (i : ℕ) (d : Data) →
    first_failure (rule_checks s i d) ≡
    option_or (first_failure (rule_shape_checks (place.Rule i) d))
    (option_or (first_failure (object_checks s (place.Rule i) d))
    (option_or (first_failure (count_checks (place.Rule i) (entries_of m.Provides d) (entries_of m.Requires d)))
    (option_or (first_failure (all_provided_checks s (text m.WorkDirectory d) i (entries_of m.Provides d)))
    (first_failure (all_required_checks i (entries_of m.Requires d))))))
unfolding rule_checks
parts s i d = rw (failure_of_both, failure_of_both, failure_of_both, failure_of_both) refl

-- what is left to check of a rule of the right shape
left : (c : In_ok-directory) →
    first_failure (rule_checks c.args.setting.now c.args.index (view c.args.rule.now)) ≡
    option_or (first_failure (path_checks (place.Rule c.args.index) (placed c.in_ok-directory.directory c.args.setting.now.build_dir c.in-Some.output.now)))
    (option_or (first_failure (count_checks (place.Rule c.args.index) (map view c.in_ok-provides.provides.now) (map view c.in_ok-requirements.requirements.now)))
    (option_or (first_failure (all_provided_checks c.args.setting.now c.in_ok-directory.directory c.args.index (map view c.in_ok-provides.provides.now)))
    (first_failure (all_required_checks c.args.index (map view c.in_ok-requirements.requirements.now)))))
left c = rw (
  parts,
  c.in_ok-check_object.ensures.0,
  c.in_ok-primary_output.ensures.0,
  c.in_ok-work.ensures.0,
  c.in_ok-provides.ensures.0,
  c.in_ok-requirements.ensures.0,
  object_checked c.args.setting.now (place.Rule c.args.index) (view c.args.rule.now) c.in-Some.output.now c.in_ok-directory.directory
      (ap option_copied (sym c.in-Some.is) ∙ c.in_ok-primary_output.ensures.1) (c.in_ok-directory.ensures ∙ c.in_ok-work.ensures.1),
  ← c.in_ok-provides.ensures.1,
  ← c.in_ok-requirements.ensures.1,
  ← (c.in_ok-directory.ensures ∙ c.in_ok-work.ensures.1),
) refl

pub returns-in_err-object : goal.returns-in_err-object
returns-in_err-object c =
    stopped (rule_checks c.args.setting.now c.args.index (view c.args.rule.now)) _ _ _ c.from_residual-in_err-object.ensures.1
    (λ ne. rw (left (goal.at.returns-in_err-object c).In_ok-directory, c.in_err-object.ensures ne) refl)

pub returns-then-provides-gt-COUNT_LIMIT : goal.returns-then-provides-gt-COUNT_LIMIT
returns-then-provides-gt-COUNT_LIMIT c = λ ne.
    rw (left (goal.at.returns-then-provides-gt-COUNT_LIMIT c).In_ok-directory, c.in_ok-object.ensures.0) (elim c.then-provides-gt-COUNT_LIMIT.branch [
      | then-provides-gt-COUNT_LIMIT-via-then-provides-gt-COUNT_LIMIT w ↦
          rw (first_long (place.Rule c.args.index) (map view c.in_ok-provides.provides.now) (map view c.in_ok-requirements.requirements.now)
          (rw length-map w.if-provides-gt-COUNT_LIMIT.true)) refl
      | then-provides-gt-COUNT_LIMIT-via-else-provides-gt-COUNT_LIMIT+then-requirements-gt-COUNT_LIMIT w ↦
          rw (second_long (place.Rule c.args.index) (map view c.in_ok-provides.provides.now) (map view c.in_ok-requirements.requirements.now)
          (rw length-map w.if-requirements-gt-COUNT_LIMIT.true)) refl
    ])

pub returns-in_err-provided : goal.returns-in_err-provided
returns-in_err-provided c =
    stopped (rule_checks c.args.setting.now c.args.index (view c.args.rule.now)) _ _ _ c.from_residual-in_err-provided.ensures.1
    (λ ne. rw (
      left (goal.at.returns-in_err-provided c).In_ok-directory,
      c.in_ok-object.ensures.0,
      count_passes (place.Rule c.args.index) (map view c.in_ok-provides.provides.now) (map view c.in_ok-requirements.requirements.now)
          (rw length-map c.if-provides-gt-COUNT_LIMIT.false) (rw length-map c.if-requirements-gt-COUNT_LIMIT.false),
      c.in_err-provided.ensures ne,
    ) refl)

pub returns-in_err-required : goal.returns-in_err-required
returns-in_err-required c =
    stopped (rule_checks c.args.setting.now c.args.index (view c.args.rule.now)) _ _ _ c.from_residual-in_err-required.ensures.1
    (λ ne. rw (
      left (goal.at.returns-in_err-required c).In_ok-directory,
      c.in_ok-object.ensures.0,
      count_passes (place.Rule c.args.index) (map view c.in_ok-provides.provides.now) (map view c.in_ok-requirements.requirements.now)
          (rw length-map c.if-provides-gt-COUNT_LIMIT.false) (rw length-map c.if-requirements-gt-COUNT_LIMIT.false),
      c.in_ok-provided.ensures.0,
      c.in_err-required.ensures ne,
    ) refl)

pub returns : goal.returns
returns c =
    let has = ap option_copied (sym c.in-Some.is) ∙ c.in_ok-primary_output.ensures.1 in
    let counts = count_passes (place.Rule c.args.index) (map view c.in_ok-provides.provides.now) (map view c.in_ok-requirements.requirements.now)
    (rw length-map c.if-provides-gt-COUNT_LIMIT.false) (rw length-map c.if-requirements-gt-COUNT_LIMIT.false) in (
      rw (left (goal.at.returns c).In_ok-directory, c.in_ok-object.ensures.0, counts, c.in_ok-provided.ensures.0) c.in_ok-required.ensures.0,
      record {
        object = object_is c.args.setting.now (place.Rule c.args.index) (view c.args.rule.now) c.in-Some.output.now c.in_ok-directory.directory has
            (c.in_ok-directory.ensures ∙ c.in_ok-work.ensures.1) ∙ c.in_ok-object.ensures.1.0;
        is_text = c.in_ok-object.ensures.1.1;
        provided = rw (← c.in_ok-provides.ensures.1, ← (c.in_ok-directory.ensures ∙ c.in_ok-work.ensures.1)) c.in_ok-provided.ensures.1;
        required = rw (← c.in_ok-requirements.ensures.1) c.in_ok-required.ensures.1;
      },
    )
