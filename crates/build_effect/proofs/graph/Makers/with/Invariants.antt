use Rattle.std.proofs.Common.{◌≡◌, take}
use Rattle.build_effect.specs.Prelude.{hasher_of, IsKeyOf, files_of, seen_files}
use Rattle.build_effect.proofs.MakerTables.{OnceBefore}
use Rattle.build_effect.proofs.graph.Makers.with.Given as goal

abbrev pub invariant-loop-file : goal.invariant-loop-file
invariant-loop-file l = record {
  entries : l.table.entries ≡ take l.file-index (seen_files l.file-items);
  key : IsKeyOf (hasher_of l.table) (files_of (seen_files l.file-items));
  once : OnceBefore l.self (seen_files l.file-items) l.file-index;
}
