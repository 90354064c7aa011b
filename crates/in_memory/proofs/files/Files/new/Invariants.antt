use Rattle.std.proofs.Common.{drop}
use Rattle.in_memory.specs.inner.FirstFiles.{AreFirst}
use Rattle.in_memory.proofs.files.Files.new.Given as goal

abbrev pub invariant-loop-index : goal.invariant-loop-index
invariant-loop-index l = AreFirst l.first (drop l.index l.files)
