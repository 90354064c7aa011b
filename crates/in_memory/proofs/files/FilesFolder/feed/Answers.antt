use Rattle.std.proofs.Common.{rules}
use Rattle.in_memory.specs.Prelude.{cow_slice_items, up_to}
use Rattle.in_memory.proofs.files.FilesFolder.feed.Goals as goal

pub returns : goal.returns
returns g c = λ read. (up_to 18446744073709551615 (cow_slice_items c.in_ok-file.file), c.in_ok-file.ensures, search rules)
