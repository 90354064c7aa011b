use Rattle.std.proofs.Common.{◌≡◌, drop, true, false}
use Rattle.document_values.proofs.Names.{name_from}
use Rattle.document_values.proofs.name.is_name.Given as goal

abbrev pub invariant-loop-byte : goal.invariant-loop-byte
invariant-loop-byte l = name_from l.has_colon l.is_empty (drop l.byte-index l.text) ≡ name_from false true l.text
