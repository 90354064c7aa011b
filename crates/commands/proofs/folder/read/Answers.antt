use Rattle.std.proofs.Common.{[], ◌∷◌, Ok, refl}
use Rattle.commands.specs.Prelude.{up_to, document_most, cow_slice_items, reading}
use Rattle.commands.proofs.folder.read.Goals as goal

-- said here, so that a body which does something else is rejected soon
pub returns-in-Ok : goal.returns-in-Ok
returns-in-Ok g c = (reading c.args.name.now (Ok (up_to document_most (cow_slice_items c.in-Ok.file))) ∷ [], c.in-Ok.ensures, refl)
