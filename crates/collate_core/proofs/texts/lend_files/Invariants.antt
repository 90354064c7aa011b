use Rattle.std.proofs.Common.{◌≡◌, take, All}
use Rattle.collate_core.specs.Prelude.{module_files, lent_files, IsSpelled}
use Rattle.collate_core.proofs.texts.lend_files.Given as goal

-- the files of the modules so far
abbrev pub invariant-loop-module : goal.invariant-loop-module
invariant-loop-module l =
    record {
      files : lent_files l.files.items ≡ module_files (take l.module-index l.modules);
      spelled : All IsSpelled (lent_files l.files.items);
    }
