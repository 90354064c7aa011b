use Rattle.std.proofs.Common.{rules}
use Rattle.scan_docs.proofs.shape.read_tree.Goals as goal

pub returns-then-bytes-gt-DOCUMENT_LIMIT-clause-refused : goal.returns-then-bytes-gt-DOCUMENT_LIMIT-clause-refused
returns-then-bytes-gt-DOCUMENT_LIMIT-clause-refused c = search rules

pub returns-in-Err-clause-refused : goal.returns-in-Err-clause-refused
returns-in-Err-clause-refused c = search rules
