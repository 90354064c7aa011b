use Rattle.std.proofs.Common.{refl}
use Rattle.serde_json.specs.View.{view}
use Rattle.scan_docs.specs.ScanChecks.{provided_checks}
use Rattle.scan_docs.proofs.Each.{stopped}
use Rattle.scan_docs.proofs.scan_document.read_provided.Goals as goal

pub returns-in_err-check_object : goal.returns-in_err-check_object
unfolding provided_checks
returns-in_err-check_object c =
    stopped (provided_checks c.args.setting.now c.args.work.now c.args.place (view c.args.entry.now)) _ _ _ c.from_residual.ensures.1
    (λ ne. rw ((c.in_err-check_object.ensures ne).0, (c.in_err-check_object.ensures ne).1) refl)

pub returns-in_err-text : goal.returns-in_err-text
unfolding provided_checks
returns-in_err-text c =
    stopped (provided_checks c.args.setting.now c.args.work.now c.args.place (view c.args.entry.now)) _ _ _ c.from_residual-in_err-text.ensures.1
    (λ ne. rw (c.in_ok-check_object.ensures.0, (c.in_err-text.ensures ne).0, (c.in_err-text.ensures ne).1) refl)

pub returns-in_err-path : goal.returns-in_err-path
unfolding provided_checks
returns-in_err-path c =
    stopped (provided_checks c.args.setting.now c.args.work.now c.args.place (view c.args.entry.now)) _ _ _ c.from_residual-in_err-path.ensures.1
    (λ ne. rw (c.in_ok-check_object.ensures.0, c.in_ok-text.ensures.0, (c.in_err-path.ensures ne).0, (c.in_err-path.ensures ne).1) refl)

pub returns-in_err-unique : goal.returns-in_err-unique
unfolding provided_checks
returns-in_err-unique c =
    stopped (provided_checks c.args.setting.now c.args.work.now c.args.place (view c.args.entry.now)) _ _ _ c.from_residual-in_err-unique.ensures.1
    (λ ne. rw (
      c.in_ok-check_object.ensures.0,
      c.in_ok-text.ensures.0,
      c.in_ok-path.ensures.0,
      (c.in_err-unique.ensures ne).0,
      (c.in_err-unique.ensures ne).1,
    ) refl)

pub returns-in_err-flag : goal.returns-in_err-flag
unfolding provided_checks
returns-in_err-flag c =
    stopped (provided_checks c.args.setting.now c.args.work.now c.args.place (view c.args.entry.now)) _ _ _ c.from_residual-in_err-flag.ensures.1
    (λ ne. rw (
      c.in_ok-check_object.ensures.0,
      c.in_ok-text.ensures.0,
      c.in_ok-path.ensures.0,
      c.in_ok-unique.ensures.0,
      (c.in_err-flag.ensures ne).0,
      (c.in_err-flag.ensures ne).1,
    ) refl)
