use Rattle.std.proofs.Common.{◌≡◌, map, take, drop, string_bytes}
use Rattle.scan_docs.specs.Prelude.{list_all, is_name}
use Rattle.scan_docs.proofs.target_document.read_kept.Given as goal

abbrev pub invariant-loop-text : goal.invariant-loop-text
invariant-loop-text l = record {
  rest : list_all is_name (drop l.text-index (map string_bytes l.text-items)) ≡ list_all is_name (map string_bytes l.text-items);
  read : l.names.items ≡ take l.text-index (map string_bytes l.text-items);
}
