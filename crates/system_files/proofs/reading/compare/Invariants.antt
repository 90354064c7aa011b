use Rattle.std.proofs.Common.{◌≡◌, ◌++◌, List, ℕ}
use Rattle.system_files.proofs.ForCallers.{ReadSoFar}
use Rattle.system_files.proofs.reading.compare.Given as goal

abbrev pub invariant-loop : goal.invariant-loop
invariant-loop g l = ((begun : List ℕ) × ReadSoFar (g.D.Disk.calls l.fn.disk) (g.D.Disk.calls l.disk) l.fn.file.name.now begun l.counter
    × (l.fn.bytes ≡ begun ++ l.rest))
    × (l.file.name.now ≡ l.fn.file.name.now)
