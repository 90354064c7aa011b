use Rattle.std.proofs.Common.{◌∷◌, [], refl, sym, Err}
use Rattle.system_files.specs.Prelude.{creating, not_created, not_written, not_renamed, renamed}
use Rattle.system_files.proofs.ForCallers.{both_made, and_two}
use Rattle.system_files.proofs.Calls.{filled}
use Rattle.system_files.proofs.writing.replace.Goals as goal
use Rattle.system_files.proofs.writing.replace.Goals.{in-Ok-written+in-Err-rename, in-Err-written}

pub returns-in-Err : goal.returns-in-Err
returns-in-Err g c =
    (creating c.args.new.now (Err c.in-Err.error) ∷ [], c.in-Err.ensures.call, not_created c.in-Err.error refl c.unless_irreplaceable.ensures)

pub returns-in-Ok-rename : goal.returns-in-Ok-rename
returns-in-Ok-rename g c =
    let f = filled _ _ _ _ _ _ _ _ _ _ c.in-Ok.ensures.call c.in-Ok.ensures.name c.allow.ensures.name c.allow.ensures.calls c.in-Ok-written.ensures.calls in
    (_, both_made _ _ _ _ _ f.made c.in-Ok-rename.ensures, renamed f.allows f.appends refl f.allowed f.all refl)

pub returns : goal.returns
returns g c =
    elim c.match-written.branch [
      | in-Ok-written+in-Err-rename w ↦
          let f = filled _ _ _ _ _ _ _ _ _ _ c.in-Ok.ensures.call c.in-Ok.ensures.name c.allow.ensures.name c.allow.ensures.calls w.in-Ok-written.ensures.calls
          in (
            _,
            and_two _ _ _ _ _ _ _ f.made w.in-Err-rename.ensures (rw (sym w.disk-is) c.remove.ensures),
            not_renamed f.allows f.appends w.in-Err-rename.error c.remove.result refl f.allowed f.all
                (rw w.ended-is w.unless_irreplaceable-in-Err-rename.ensures),
          )
      | in-Err-written w ↦
          let f = filled _ _ _ _ _ _ _ _ _ _ c.in-Ok.ensures.call c.in-Ok.ensures.name c.allow.ensures.name c.allow.ensures.calls w.in-Err-written.ensures.calls
          in (
            _,
            both_made _ _ _ _ _ f.made (rw (sym w.disk-is) c.remove.ensures),
            not_written f.allows f.appends w.in-Err-written.error c.remove.result refl f.allowed f.all w.ended-is,
          )
    ]
