use Rattle.std.proofs.Common.{◌≡◌, map, take}
use Rattle.build_effect.proofs.JoinedFiles.{entry}
use Rattle.build_effect.proofs.files.names_of.Given as goal

abbrev pub invariant-loop-file : goal.invariant-loop-file
invariant-loop-file l = l.names ≡ map entry (take l.file-index l.files)
