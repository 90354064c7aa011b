use Rattle.std.proofs.Common.{◌≡◌, [], Some, codes, refl, Result, Ok, Err}
use Rattle.ninja_text.specs.Paths.{path_of}
use Rattle.commands.specs.Prelude.{path_fault_text, path_location, Failure, Gives, NameOf, Outcome, PathText, Text}
use Rattle.ninja_text.specs.declared.fault.PathFault.{PathFault}
use Rattle.commands.specs.declared.location.Document.TheVariants as file
use Rattle.commands.proofs.Outcomes.{next, last, or_unmade, Printed}
use Rattle.commands.proofs.edges.effect_of_read.Goals as goal

-- the path of the name
of_name : {given name : Text} (made : Result PathText (Failure PathFault)) (s : Outcome PathText) → given ≡ name →
    Gives (λ path. path) made (path_of given) → Printed (codes "name: ") (Some file.Name) path_fault_text path_location made s → NameOf name [] s
of_name made (Ok path) same is h = or_unmade (codes "name: ") (Some file.Name) path_fault_text path_location (λ path. path) made (Ok path) _ (rw same at is) h
of_name made (Err stop) same is h = or_unmade (codes "name: ") (Some file.Name) path_fault_text path_location (λ path. path) made (Err stop) _ (rw same at is) h

pub returns-in_err-name : goal.returns-in_err-name
returns-in_err-name c =
    last _ (of_name c.of.result (Err c.in_err-name.field-0.0) c.as_bytes.ensures.value c.of.ensures.meaning c.in_err-name.ensures) c.from_residual.ensures

pub returns-in_err-old : goal.returns-in_err-old
returns-in_err-old c =
    next _ (of_name c.of.result (Ok c.in_ok-name.name) c.as_bytes.ensures.value c.of.ensures.meaning c.in_ok-name.ensures)
    (last _ c.in_err-old.ensures c.from_residual-in_err-old.ensures)

pub returns-in_err-dyndep : goal.returns-in_err-dyndep
returns-in_err-dyndep c =
    next _ (of_name c.of.result (Ok c.in_ok-name.name) c.as_bytes.ensures.value c.of.ensures.meaning c.in_ok-name.ensures)
    (next _ c.in_ok-old.ensures (last _ c.in_err-dyndep.ensures c.from_residual-in_err-dyndep.ensures))

pub returns-in_err-new : goal.returns-in_err-new
returns-in_err-new c =
    next _ (of_name c.of.result (Ok c.in_ok-name.name) c.as_bytes.ensures.value c.of.ensures.meaning c.in_ok-name.ensures)
    (next _ c.in_ok-old.ensures (next _ c.in_ok-dyndep.ensures (last _ c.in_err-new.ensures c.from_residual-in_err-new.ensures)))

pub returns-in_err-text : goal.returns-in_err-text
returns-in_err-text c =
    next _ (of_name c.of.result (Ok c.in_ok-name.name) c.as_bytes.ensures.value c.of.ensures.meaning c.in_ok-name.ensures)
    (next _ c.in_ok-old.ensures (next _ c.in_ok-dyndep.ensures (next _ c.in_ok-new.ensures
    (last _ c.in_err-text.ensures c.from_residual-in_err-text.ensures))))

pub returns : goal.returns
returns c =
    next _ (of_name c.of.result (Ok c.in_ok-name.name) c.as_bytes.ensures.value c.of.ensures.meaning c.in_ok-name.ensures)
    (next _ c.in_ok-old.ensures (next _ c.in_ok-dyndep.ensures (next _ c.in_ok-new.ensures
    (next _ c.in_ok-text.ensures (refl, c.text.ensures)))))
