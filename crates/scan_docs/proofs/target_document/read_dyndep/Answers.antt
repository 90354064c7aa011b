use Rattle.std.proofs.Common.{rules}
use Rattle.scan_docs.specs.TargetChecks.{dyndep_checks}
use Rattle.scan_docs.proofs.target_document.read_dyndep.Goals as goal

pub returns : goal.returns
unfolding dyndep_checks
returns c = search rules
