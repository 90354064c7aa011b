use Rattle.std.proofs.Common.{◌≡◌, take}
use Rattle.scan_docs.proofs.info.LentInfo.to_info.Given as goal

-- the modules so far
abbrev pub invariant-loop-entry : goal.invariant-loop-entry
invariant-loop-entry l = l.modules.items ≡ take l.entry-index l.entry-items
