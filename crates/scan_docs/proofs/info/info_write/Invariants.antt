use Rattle.std.proofs.Common.{◌≡◌, take}
use Rattle.scan_docs.proofs.info.info_write.Given as goal

-- the modules so far
abbrev pub invariant-loop-entry : goal.invariant-loop-entry
invariant-loop-entry l = l.modules.items ≡ take l.entry-index l.info.modules
