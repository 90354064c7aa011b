use Rattle.std.proofs.Common.{◌≡◌, []}
use Rattle.disk_folder.proofs.Runs.{OpenedSoFar}
use Rattle.disk_folder.proofs.folder.feed_file.Given as goal

-- the history has the bytes read so far, and a reader that was new was given them, and has not failed
abbrev pub invariant-loop : goal.invariant-loop
invariant-loop g l =
    OpenedSoFar (g.D.Disk.calls l.fn.disk) (g.D.Disk.calls l.disk) l.fn.name l.history.given l.counter
    × (l.history.calls ≡ l.fn.history.calls)
    × (g.R.PieceReader.has_read [] l.fn.reader → g.R.PieceReader.has_read l.history.given l.reader)
    × (l.file.name.now ≡ l.fn.name)
