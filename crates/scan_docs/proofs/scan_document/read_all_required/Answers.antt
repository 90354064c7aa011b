use Rattle.std.proofs.Common.{map}
use Rattle.serde_json.specs.View.{view}
use Rattle.scan_docs.specs.ScanChecks.{all_required_checks}
use Rattle.scan_docs.proofs.Each.{one_more, refused_at, stopped}
use Rattle.scan_docs.proofs.scan_document.read_all_required.Goals as goal

pub returns-in_err-name : goal.returns-in_err-name
unfolding all_required_checks
returns-in_err-name c =
    stopped (all_required_checks c.args.rule (map view c.args.entries.now)) _ _ _ c.from_residual-in_err-name.ensures.1
    (λ ne. refused_at c.loop-entry-test.true c.index-entries-entry.is (c.in_err-name.ensures ne) c.loop-entry.invariant)

pub loop-entry-preserved : goal.loop-entry-preserved
loop-entry-preserved c =
    rw c.in_ok-push.ensures.items
    (one_more c.in_ok-name.name c.loop-entry-test.true c.index-entries-entry.is c.in_ok-name.ensures.0 c.in_ok-name.ensures.1 c.loop-entry.invariant)
