use Rattle.std.proofs.Common.{◌≡◌, map, Some, refl, sym, ap, ◌∙◌}
use Rattle.scan_docs.specs.Prelude.{view, each_from, first_failure}
use Rattle.scan_docs.specs.declared.fault.Place.TheVariants as place
use Rattle.scan_docs.specs.InfoChecks.{requirement_checks, all_requirement_checks, module_checks}
use Rattle.scan_docs.proofs.Each.{failure_of_both, one_more, refused_at, all_read, stopped}
use Rattle.scan_docs.proofs.info.read_module.Goals as goal
use Rattle.scan_docs.proofs.info.read_module.Goals.{In_ok-name}

-- what is left to check once the name and the file are accepted
left : (c : In_ok-name) →
    first_failure (module_checks c.args.with_visibility c.args.number (view c.args.value.now)) ≡
    first_failure (each_from (λ entry d. requirement_checks (place.ModuleRequires c.args.number entry) d) 0 (map view c.in_ok-requirements.requirements.now))
unfolding module_checks all_requirement_checks
left c = rw (
  failure_of_both,
  c.in_ok-texts.ensures.0,
  c.in_ok-requirements.ensures.0,
  failure_of_both,
  c.in_ok-is_private.ensures.0,
  failure_of_both,
  c.in_ok-texts.ensures.1.0,
  c.in_ok-texts.ensures.1.1,
  c.in_ok-name.ensures.0,
  c.in_ok-requirements.ensures.1,
) refl

pub returns-in_err-pair : goal.returns-in_err-pair
returns-in_err-pair c =
    stopped (module_checks c.args.with_visibility c.args.number (view c.args.value.now)) _ _ _ c.from_residual-in_err-pair.ensures.1
    (λ ne. rw (left (goal.at.returns-in_err-pair c).In_ok-name)
    (refused_at c.loop-entry-test.true c.index-requirements-entry.is (c.in_err-pair.ensures ne) c.loop-entry.invariant))

pub loop-entry-preserved : goal.loop-entry-preserved
loop-entry-preserved c =
    rw c.in_ok-push.ensures.items
    (one_more c.in_ok-pair.pair c.loop-entry-test.true c.index-requirements-entry.is c.in_ok-pair.ensures.0 c.in_ok-pair.ensures.1 c.loop-entry.invariant)

pub returns : goal.returns
returns c =
    let required = all_read c.loop-entry-test.false c.loop-entry.invariant in (
      rw (left (goal.at.returns c).In_ok-name) required.0,
      record {
        name = c.in_ok-texts.ensures.1.0 ∙ ap Some (sym c.in_ok-name.ensures.1.0);
        file = rw c.in_ok-texts.ensures.1.1 c.in_ok-name.ensures.1.1;
        is_text = c.in_ok-name.ensures.1.2;
        required = rw c.in_ok-requirements.ensures.1 required.1;
        visibility = c.in_ok-is_private.ensures.1;
      },
    )
