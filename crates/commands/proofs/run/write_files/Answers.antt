use Rattle.std.proofs.Common.{◌≡◌, ◌∙◌, ◌≤◌, List, Some, length, map, ap, subst, sym, arith, slice_get, refl}
use Rattle.std.proofs.lemmas.List.{length-map}
use Rattle.commands.specs.Prelude.{file_value, WritesFile, WritesFiles, FileValue, OutputValue}
use Rattle.commands.proofs.Outcomes.{each_done, each_last, each_next, leads_none, mapped_at, passed}
use Rattle.commands.proofs.run.write_files.Given as given
use Rattle.commands.proofs.run.write_files.Goals as goal
use Rattle.commands.proofs.run.write_files.Goals.{After-write}

-- the file of this turn
here : (g : given.Over) (c : After-write g) → slice_get c.args.output.now.files c.loop-file.file-index ≡ Some (file_value c.file-item.result)
here g c =
    subst (λ (fs : List FileValue). slice_get fs c.loop-file.file-index ≡ Some (file_value c.file-item.result))
    (ap (map file_value) c.deref-file-items.ensures.value ∙ ap (λ (o : OutputValue). o.files) c.output.view_is)
    (mapped_at file_value c.deref-file-items.result.now _ c.file-item.result _ c.loop-file-test.true c.file-item.is refl)

pub loop-file-init : goal.loop-file-init
loop-file-init g c = leads_none (g.F.Folder.calls c.args.folder.now) (WritesFiles c.args.output.now.files)

pub returns-in_err-write : goal.returns-in_err-write
returns-in_err-write g c =
    let files = c.args.output.now.files in
    rw (passed c.from_residual.ensures)
    (each_last (λ done. WritesFile) files (WritesFiles files) _ c.loop-file.file-index
    (here g (goal.at.returns-in_err-write g c).After-write) c.loop-file.invariant
    c.in_err-write.ensures)

pub loop-file-preserved : goal.loop-file-preserved
loop-file-preserved g c =
    let files = c.args.output.now.files in
    each_next (λ done. WritesFile) files (WritesFiles files) _ c.loop-file.file-index (here g (goal.at.loop-file-preserved g c).After-write)
    c.loop-file.invariant
    c.in_ok-write.ensures

-- said here, so that a call after the last file is rejected soon
pub returns : goal.returns
returns g c =
    let files = c.args.output.now.files in
    let items = c.deref-file-items.result.now in
    let same : map file_value items ≡ files = ap (map file_value) c.deref-file-items.ensures.value ∙ ap (λ (o : OutputValue). o.files) c.output.view_is in
    let past : length files ≤ c.loop-file.file-index =
    let e : length files ≡ length items = ap length (sym same) ∙ length-map items file_value in omega (arith, e, c.loop-file-test.false) in
    each_done (λ done. WritesFile) files (WritesFiles files) _ _ past c.loop-file.invariant
