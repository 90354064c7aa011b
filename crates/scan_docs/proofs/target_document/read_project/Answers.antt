use Rattle.std.proofs.Common.{rules}
use Rattle.scan_docs.proofs.Each.{failure_of_both}
use Rattle.scan_docs.proofs.target_document.read_project.Goals as goal

pub returns : goal.returns
returns c = search (rules, failure_of_both)
