use Rattle.scan_docs.specs.Prelude.{view, IsRule, rule_checks}
use Rattle.scan_docs.proofs.Each.{SoFar}
use Rattle.scan_docs.proofs.scan_document.read_rules.Given as goal

abbrev pub invariant-loop-index : goal.invariant-loop-index
invariant-loop-index l = SoFar view (rule_checks l.setting) (IsRule l.setting) l.rules l.index l.found.items
