use Rattle.std.proofs.Common.{◌≡◌, map, take}
use Rattle.scan_docs.specs.Scan.{dashed}
use Rattle.scan_docs.proofs.scan_document.dashed.Given as goal

abbrev pub invariant-loop-byte : goal.invariant-loop-byte
invariant-loop-byte l = l.path.items ≡ map dashed (take l.byte-index l.byte-items)
