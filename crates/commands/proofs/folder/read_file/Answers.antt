use Rattle.std.proofs.Common.{[], ◌∷◌, refl, Ok, Err}
use Rattle.commands.specs.Folder.{reading}
use Rattle.commands.proofs.folder.read_file.Goals as goal

pub returns-in-Ok : goal.returns-in-Ok
returns-in-Ok g c =
    let (file, made, given) = c.in-Ok.ensures c.requires in
    (reading c.args.name.now (Ok file) ∷ [], made, (file, refl, c.finish.ensures.read file given))

pub returns-in-Err : goal.returns-in-Err
returns-in-Err g c = (reading c.args.name.now (Err c.in-Err.error) ∷ [], c.in-Err.ensures c.requires, c.of_unread.ensures)
