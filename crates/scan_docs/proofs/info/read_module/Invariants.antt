use Rattle.scan_docs.specs.Prelude.{view, IsRequirement, requirement_checks}
use Rattle.scan_docs.specs.declared.fault.Place.TheVariants as place
use Rattle.scan_docs.proofs.Each.{SoFar}
use Rattle.scan_docs.proofs.info.read_module.Given as goal

abbrev pub invariant-loop-entry : goal.invariant-loop-entry
invariant-loop-entry l =
    SoFar view (λ entry d. requirement_checks (place.ModuleRequires l.number entry) d) IsRequirement l.requirements l.entry l.required.items
