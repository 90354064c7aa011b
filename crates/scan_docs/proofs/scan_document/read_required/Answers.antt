use Rattle.std.proofs.Common.{rules}
use Rattle.scan_docs.specs.ScanChecks.{required_checks}
use Rattle.scan_docs.proofs.scan_document.read_required.Goals as goal

pub returns : goal.returns
unfolding required_checks
returns c = search rules
