use Rattle.std.proofs.Common.{drop}
use Rattle.commands.specs.Prelude.{WritesFile, WritesFiles, Each}
use Rattle.commands.proofs.Outcomes.{Leads}
use Rattle.commands.proofs.run.write_files.Given as goal

-- with the files that are left after those so far, all are written
abbrev pub invariant-loop-file : goal.invariant-loop-file
invariant-loop-file g l =
    Leads (g.F.Folder.calls l.fn.folder) (g.F.Folder.calls l.folder)
    (Each (λ done. WritesFile) tt (drop l.file-index l.output.files)) (WritesFiles l.output.files)
