use Rattle.std.proofs.Common.{◌≡◌, ◌++◌, map, take}
use Rattle.build_effect.specs.Prelude.{HasAdded, files_of, seen_files}
use Rattle.build_effect.proofs.graph.MadeFiles.push.Given as goal

abbrev pub invariant-loop-file : goal.invariant-loop-file
invariant-loop-file l = record {
  digest : HasAdded l.self-inside.digest (files_of (seen_files l.self-inside.files.items));
  made : seen_files l.self-inside.files.items ≡ l.fn.self ++ map (λ file. (file, l.edge)) (take l.file-index l.files);
}
