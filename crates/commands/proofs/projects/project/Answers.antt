use Rattle.std.proofs.Common.{◌≡◌, ◌∙◌, List, [], length, map, string_bytes, zip, Some, codes, ap, Result, IfOk, IfErr}
use Rattle.std.proofs.lemmas.List.{length-map}
use Rattle.commands.specs.Prelude.{Bytes, DocFault, Failure, ForFault, doc_fault_text, doc_location, IsRefused, ProjectValue, project_checks, style_of, Outcome, OutputValue, Part, Runs, Writes, ◌>>=◌, ReadTargetValue, AllEdgesPass, HasProject, ProjectOf, ProjectRun, all_files, form_of, project_target, ProjectDocumentOf}
use Rattle.commands.specs.declared.location.Document.TheVariants as file
use Rattle.commands.proofs.Outcomes.{Printed, last, next, or_printed, pure_last, pure_next, run_once, run_last}
use Rattle.commands.proofs.Targets.{objects_are_text}
use Rattle.commands.proofs.projects.project.Given as given
use Rattle.commands.proofs.projects.project.Goals as goal
use Rattle.commands.proofs.projects.project.Goals.{In_ok-read}

-- the members of the document, or why it is rejected
document_of : (document : Bytes) (r : Result ProjectValue (Failure DocFault)) (s : Outcome ProjectValue) → IfOk r (HasProject document) →
    IfErr r (ForFault (IsRefused project_checks document)) → Printed (codes "project: ") (Some file.Project) doc_fault_text doc_location r s →
    ProjectDocumentOf document [] s
document_of document = or_printed (codes "project: ") (Some file.Project) doc_fault_text doc_location (HasProject document) (IsRefused project_checks document)

pub returns-in_err-project : goal.returns-in_err-project
returns-in_err-project g c =
    pure_last _ _
    (document_of c.args.document.now c.project_read.result _ c.project_read.ensures.accepted c.project_read.ensures.refused c.in_err-project.ensures)
    c.from_residual.ensures

pub returns-in_err-read : goal.returns-in_err-read
returns-in_err-read g c =
    let named = ap (map string_bytes) c.deref.ensures.value ∙ ap (λ (p : ProjectValue). p.targets) c.project.view_is in
    pure_next _ _
    (document_of c.args.document.now c.project_read.result _ c.project_read.ensures.accepted c.project_read.ensures.refused c.in_ok-project.ensures)
    (run_last _ _ (rw named at c.in_err-read.ensures) c.from_residual-in_err-read.ensures)

pub all_collated-requires : goal.all_collated-requires
all_collated-requires g c = rw c.as_slice-targets.ensures.value c.read.invariant.0

-- what comes after the targets
abbrev AfterTargets : List ReadTargetValue → Part OutputValue
AfterTargets targets = ProjectOf targets >>= (λ outs. AllEdgesPass 0 (zip targets outs) >>= (λ done. Writes (all_files (zip targets outs))))

-- the run continues after them
targets_next : (g : given.Over) (c : In_ok-read g) (own : List ReadTargetValue) (s : Outcome OutputValue) → own ≡ c.in_ok-read.read → AfterTargets own [] s →
    Runs (g.F.Folder.calls c.args.folder.now) (g.F.Folder.calls c.read_targets.new.folder) (ProjectRun c.args.document.now) s
targets_next g c own s same rest =
    let named = ap (map string_bytes) c.deref.ensures.value ∙ ap (λ (p : ProjectValue). p.targets) c.project.view_is in
    pure_next _ _
    (document_of c.args.document.now c.project_read.result _ c.project_read.ensures.accepted c.project_read.ensures.refused c.in_ok-project.ensures)
    (run_once _ _ (rw named at c.in_ok-read.ensures) (rw same at rest))

pub returns-in_err-outs : goal.returns-in_err-outs
returns-in_err-outs g c =
    targets_next g (goal.at.returns-in_err-outs g c).In_ok-read _ _ (c.as_slice-targets.ensures.value ∙ c.read.view_is)
    (last _ c.in_err-outs.ensures c.from_residual-in_err-outs.ensures)

pub all_pass-requires-clause-lists : goal.all_pass-requires-clause-lists
all_pass-requires-clause-lists g c = rw c.as_slice-targets.ensures.value c.read.invariant.1

pub all_pass-requires-clause-each : goal.all_pass-requires-clause-each
all_pass-requires-clause-each g c =
    let targets = c.as_slice-targets.result.now in
    let count : length c.in_ok-outs.outs.items ≡ length (map project_target targets) = c.in_ok-outs.ensures.1.count in
    ap length c.deref-2.ensures.value ∙ count ∙ length-map targets project_target

pub returns-in_err-all_pass : goal.returns-in_err-all_pass
returns-in_err-all_pass g c =
    targets_next g (goal.at.returns-in_err-all_pass g c).In_ok-read _ _ (c.as_slice-targets.ensures.value ∙ c.read.view_is)
    (next _ c.in_ok-outs.ensures (last _ (rw c.deref-2.ensures.value at c.in_err-all_pass.ensures) c.from_residual-in_err-all_pass.ensures))

pub write_all-requires : goal.write_all-requires
write_all-requires g c =
    let targets = c.as_slice-targets.result.now in
    objects_are_text (style_of (form_of targets)) targets c.in_ok-outs.outs.items c.in_ok-outs.ensures.1

pub returns : goal.returns
returns g c =
    targets_next g (goal.at.returns g c).In_ok-read _ _ (c.as_slice-targets.ensures.value ∙ c.read.view_is)
    (next _ c.in_ok-outs.ensures (next _ (rw c.deref-2.ensures.value at c.in_ok-all_pass.ensures) c.write_all.ensures))
