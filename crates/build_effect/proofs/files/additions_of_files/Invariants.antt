use Rattle.std.proofs.Common.{take}
use Rattle.build_effect.specs.Prelude.{AreJoined}
use Rattle.build_effect.proofs.files.additions_of_files.Given as goal

abbrev pub invariant-loop-file : goal.invariant-loop-file
invariant-loop-file l = AreJoined l.edges (take l.file-index l.files) l.additions.items l.edge_of.items
