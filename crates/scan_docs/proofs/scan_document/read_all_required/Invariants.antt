use Rattle.scan_docs.specs.Prelude.{view, IsRequired, required_checks}
use Rattle.scan_docs.specs.declared.fault.Place.TheVariants as place
use Rattle.scan_docs.proofs.Each.{SoFar}
use Rattle.scan_docs.proofs.scan_document.read_all_required.Given as goal

abbrev pub invariant-loop-entry : goal.invariant-loop-entry
invariant-loop-entry l = SoFar view (λ entry d. required_checks (place.Requires l.rule entry) d) IsRequired l.entries l.entry l.found.items
