use Rattle.std.proofs.Common.{rules, [], refl}
use Rattle.std.proofs.lemmas.List.Elements.{All-nil}
use Rattle.ninja_text.specs.declared.failure.Failure.TheVariants.{Memory}
use Rattle.in_memory.specs.Prelude.{Err, CollateRun, stops, IsCallOf}
use Rattle.in_memory.proofs.Folders.{run_over}
use Rattle.in_memory.proofs.runs.collate_run.Goals as goal

pub returns : goal.returns
returns c =
    let old = c.in_ok-folder.folder in
    let new = c.collate.new.folder in
    let over = run_over c.args.files.now old.files.now new.files.now old.history.calls new.history.calls
    (CollateRun c.args.document.now) c.collate.result c.in_ok-folder.ensures.files c.in_ok-folder.ensures.calls new.got
    c.collate.ensures in
    (c.collate.result, over, c.of.ensures)

-- there was no memory for the folder, so no call was made
pub returns-in_err-folder : goal.returns-in_err-folder
returns-in_err-folder c = (Err Memory, ([], All-nil (IsCallOf c.args.files.now), stops Memory refl refl), search rules)
