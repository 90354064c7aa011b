use Rattle.std.proofs.Common.{◌≡◌, ◌+◌, drop}
use Rattle.ninja_text.specs.Scanning.{scan_from}
use Rattle.ninja_text.proofs.cutter.scan_bytes.Given as goal

-- what is left to scan gives the whole scan's result
abbrev pub invariant-loop-i : goal.invariant-loop-i
invariant-loop-i l = scan_from (l.index + l.i) l.state (drop l.i l.bytes) ≡ scan_from l.fn.index l.fn.from l.bytes
