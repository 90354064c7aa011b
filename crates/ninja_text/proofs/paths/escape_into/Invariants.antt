use Rattle.std.proofs.Common.{◌≡◌, ◌++◌, take}
use Rattle.ninja_text.specs.Escapes.{escaped}
use Rattle.ninja_text.proofs.paths.escape_into.Given as goal

-- the bytes so far are written after what was there
abbrev pub invariant-loop-byte : goal.invariant-loop-byte
invariant-loop-byte l = l.out.items ≡ l.fn.out.items ++ escaped (take l.byte-index l.path)
