use Rattle.std.proofs.Common.{◌≡◌, ◌≤◌, vec_len}
use Rattle.system_files.proofs.ForCallers.{ReadSoFar}
use Rattle.system_files.proofs.reading.read_open.Given as goal

abbrev pub invariant-loop : goal.invariant-loop
invariant-loop g l = ReadSoFar (g.D.Disk.calls l.fn.disk) (g.D.Disk.calls l.disk) l.fn.file.name.now l.bytes.items l.counter
    × (l.file.name.now ≡ l.fn.file.name.now) × (vec_len l.bytes ≤ l.most)
