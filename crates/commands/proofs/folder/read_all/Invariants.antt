use Rattle.std.proofs.Common.{◌≡◌, drop, length, map, string_bytes}
use Rattle.commands.specs.Prelude.{Each, AreTaken, ReadsNext, ReadsAll, index_of, listed_as, listed_texts, cow_slice_items}
use Rattle.commands.proofs.Outcomes.{Leads}
use Rattle.commands.proofs.ReadOnce.{ReadSoFar}
use Rattle.commands.proofs.folder.read_all.Given as goal

-- with the files that are left after those so far, all are read
abbrev pub invariant-loop-index : goal.invariant-loop-index
invariant-loop-index g l =
    record {
      count : length l.files.items ≡ l.index;
      taken : AreTaken l.known;
      files : ReadSoFar (map string_bytes l.names) (map (listed_as cow_slice_items) l.files.items) (index_of l.known);
      leads : Leads (g.F.Folder.calls l.fn.folder) (g.F.Folder.calls l.folder)
          (Each (ReadsNext (map string_bytes l.names)) (listed_texts cow_slice_items l.files) (drop l.index (map string_bytes l.names)))
          (ReadsAll (map string_bytes l.names));
    }
