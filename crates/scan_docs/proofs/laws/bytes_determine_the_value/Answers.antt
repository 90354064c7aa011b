use Rattle.scan_docs.proofs.Exact.{scan_value, info_value, target_value, project_value}
use Rattle.scan_docs.proofs.laws.bytes_determine_the_value.Goals as goal

pub returns-clause-scan : goal.returns-clause-scan
returns-clause-scan c = scan_value

pub returns-clause-info : goal.returns-clause-info
returns-clause-info c = info_value

pub returns-clause-target : goal.returns-clause-target
returns-clause-target c = target_value

pub returns-clause-project : goal.returns-clause-project
returns-clause-project c = project_value
