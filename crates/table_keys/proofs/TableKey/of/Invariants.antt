use Rattle.std.proofs.Common.{map, take}
use Rattle.table_keys.specs.Keys.{HasAdded}
use Rattle.table_keys.proofs.TableKey.of.Given as goal

abbrev pub invariant-loop-entry : goal.invariant-loop-entry
invariant-loop-entry l = HasAdded l.digest (map (λ entry. entry.now) (take l.entry-index l.fn.entries))
