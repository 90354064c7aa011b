use Rattle.std.proofs.Common.{◌≡◌, map, drop, string_bytes}
use Rattle.scan_docs.specs.Prelude.{view, all_texts}
use Rattle.scan_docs.proofs.Each.{onto}
use Rattle.scan_docs.proofs.shape.required_texts.Given as goal

abbrev pub invariant-loop-value : goal.invariant-loop-value
invariant-loop-value l = onto (map string_bytes l.found.items) (all_texts (drop l.value-index (map view l.values))) ≡ all_texts (map view l.values)
