use Rattle.std.proofs.Common.{rules, ◌≡◌, ◌∙◌, ◌==◌, List, [], ◌∷◌, length, true, false, Some, codes, refl, ap, sym, Err}
use Rattle.ninja_text.specs.declared.failure.Failure.TheVariants.{Fault}
use Rattle.scan_docs.specs.Target as document
use Rattle.commands.specs.Prelude.{doc_fault_text, doc_location, DocFault, ReadTargetValue, HasFormOf, form_of}
use Rattle.scan_docs.specs.declared.fault.DocFault.TheVariants.{BadShape}
use Rattle.scan_docs.specs.declared.fault.Place.TheVariants.{Document}
use Rattle.scan_docs.specs.declared.member.Member.TheVariants.{Map}
use Rattle.commands.specs.declared.location.Document.TheVariants as file
use Rattle.commands.proofs.Outcomes.{or_printed}
use Rattle.commands.proofs.read_targets.pass_form.Goals as goal

-- the first target has another form
of_first : (ts : List ReadTargetValue) (spec : document.TargetDocumentValue) → (length ts == 0) ≡ false →
    (spec.map_form ≡ form_of ts → ⊥) → HasFormOf ts spec → ⊥
of_first [] spec some other = absurd (let no : true ≡ false = some in cc)
of_first (t ∷ ts) spec some other = other

pub returns : goal.returns
returns c =
    let earlier = c.args.earlier.now in
    let form = c.form_of.ensures ∙ ap form_of (c.deref.ensures.value ∙ c.earlier.view_is) in
    let own : c.args.spec.now.map_form ≡ c.form_of.result → ⊥ = search rules in
    let some : (length c.earlier.inside.list.items == 0) ≡ false = search rules in
    let other = of_first earlier c.args.spec.now (rw c.earlier.view_is at some) (λ same. own (same ∙ sym form)) in
    or_printed (codes "target: ") (Some file.Target) doc_fault_text doc_location (λ (done : Unit {0}). HasFormOf earlier c.args.spec.now)
    (λ (f : DocFault). (HasFormOf earlier c.args.spec.now → ⊥) × (f ≡ BadShape Document Map))
    (Err (Fault (BadShape Document Map))) c.or_stop.result tt (other, refl) c.or_stop.ensures
