use Rattle.scan_docs.specs.Prelude.{view, IsProvidedModule, provided_checks}
use Rattle.scan_docs.specs.declared.fault.Place.TheVariants as place
use Rattle.scan_docs.proofs.Each.{SoFar}
use Rattle.scan_docs.proofs.scan_document.read_all_provided.Given as goal

abbrev pub invariant-loop-entry : goal.invariant-loop-entry
invariant-loop-entry l =
    SoFar view (λ entry d. provided_checks l.setting l.work (place.Provides l.rule entry) d) (IsProvidedModule l.setting l.work) l.entries l.entry
    l.found.items
