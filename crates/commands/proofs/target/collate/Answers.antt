use Rattle.std.proofs.Common.{◌≡◌, ◌∙◌, ℕ, List, [], Ok, Some, ◌++◌, map, refl, ap, string_bytes}
use Rattle.commands.specs.Prelude.{TargetDocumentValue, file_value, files_of, style_of, target_with, EdgesPass, TargetFilesValue, Outcome, written}
use Rattle.commands.specs.declared.stop.OutputFile.{OutputFile}
use Rattle.commands.proofs.Targets.{objects_text}
use Rattle.commands.proofs.Outcomes.{next, last, no_value, pure_next, pure_last, run_once, run_last}
use Rattle.commands.proofs.target.collate.Given as given
use Rattle.commands.proofs.target.collate.Goals as goal
use Rattle.commands.proofs.target.collate.Goals.{After-read, Joined-files, in-Some+in_ok-pass_list, in_default}

-- the info files are those that the document links
linked : (g : given.Over) (c : After-read g) → map string_bytes c.deref.result.now ≡ c.in_ok-spec.spec.linked
linked g c = ap (map string_bytes) c.deref.ensures.value ∙ ap (λ (s : TargetDocumentValue). s.linked) c.spec.view_is

-- the edge list and the path of the target
passes_as : (spec view : TargetDocumentValue) (files inside : TargetFilesValue) (dyndep : List ℕ) (s : Outcome (Unit {0})) → inside ≡ files → view ≡ spec →
    EdgesPass inside.listing view.dyndep_path dyndep [] s → EdgesPass files.listing spec.dyndep_path dyndep [] s
passes_as spec view files inside dyndep s f v h = rw (f, v) at h

pub append_files-requires : goal.append_files-requires
append_files-requires g c =
    let spec = c.in_ok-spec.spec in
    objects_text (target_with spec c.in_ok-files.files) (style_of spec.map_form) c.in_ok-collated.collated c.in_ok-collated.ensures.1

pub returns-in_err-spec : goal.returns-in_err-spec
returns-in_err-spec g c = pure_last _ _ c.in_err-spec.ensures c.from_residual.ensures

pub returns-in_err-files : goal.returns-in_err-files
returns-in_err-files g c =
    pure_next _ _ c.in_ok-spec.ensures
    (run_last _ _ (rw (linked g (goal.at.returns-in_err-files g c).After-read) at c.in_err-files.ensures) c.from_residual-in_err-files.ensures)

pub returns-in_err-collated : goal.returns-in_err-collated
returns-in_err-collated g c =
    pure_next _ _ c.in_ok-spec.ensures
    (run_once _ _ (rw (linked g (goal.at.returns-in_err-collated g c).After-read) at c.in_ok-files.ensures)
    (last _ c.in_err-collated.ensures c.from_residual-in_err-collated.ensures))

pub returns-in_err-pass_list : goal.returns-in_err-pass_list
returns-in_err-pass_list g c =
    let listing : c.files.inside.listing ≡ Some c.in-Some.listing = c.in-Some.is in
    pure_next _ _ c.in_ok-spec.ensures
    (run_once _ _ (rw (linked g (goal.at.returns-in_err-pass_list g c).After-read) at c.in_ok-files.ensures) (next _ c.in_ok-collated.ensures
    (last _ (passes_as c.in_ok-spec.spec _ c.in_ok-files.files _ _ _ c.files.view_is c.spec.view_is (rw listing c.in_err-pass_list.ensures))
    c.from_residual-in_err-pass_list.ensures)))

-- the edges pass, if there is a list
passes : (g : given.Over) (c : Joined-files g) →
    EdgesPass c.in_ok-files.files.listing c.in_ok-spec.spec.dyndep_path c.in_ok-collated.collated.dyndep [] (Ok tt)
passes g c =
    passes_as c.in_ok-spec.spec _ c.in_ok-files.files _ _ _ c.files.view_is c.spec.view_is (elim c.match-files.branch [
      | in-Some+in_ok-pass_list w ↦ rw w.in-Some.is w.in_ok-pass_list.ensures
      | in_default w ↦ rw w.in_default.is (refl, refl)
    ])

pub returns-in_err-append_files : goal.returns-in_err-append_files
returns-in_err-append_files g c =
    pure_next _ _ c.in_ok-spec.ensures
    (run_once _ _ (rw (linked g (goal.at.returns-in_err-append_files g c).After-read) at c.in_ok-files.ensures) (next _ c.in_ok-collated.ensures
    (next _ (passes g (goal.at.returns-in_err-append_files g c).Joined-files)
    (no_value _ _ c.from_residual-in_err-append_files.ensures))))

pub returns : goal.returns
returns g c =
    let made = c.in_ok-append_files.ensures ∙
    ap (λ (fs : List OutputFile). map file_value fs ++ files_of c.in_ok-spec.spec c.in_ok-collated.collated) c.new-written.ensures.items in
    pure_next _ _ c.in_ok-spec.ensures
    (run_once _ _ (rw (linked g (goal.at.returns g c).After-read) at c.in_ok-files.ensures) (next _ c.in_ok-collated.ensures
    (next _ (passes g (goal.at.returns g c).Joined-files)
    (refl, c.files-2.ensures ∙ ap written made))))
