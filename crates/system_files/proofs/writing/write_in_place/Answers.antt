use Rattle.std.proofs.Common.{◌∷◌, [], refl, sym, Ok, Err}
use Rattle.system_files.specs.Prelude.{emptying, not_opened, opened}
use Rattle.system_files.proofs.ForCallers.{both_made}
use Rattle.system_files.proofs.writing.write_in_place.Goals as goal

pub returns-in-Ok : goal.returns-in-Ok
returns-in-Ok g c =
    let all = c.append.ensures.calls in (
      emptying c.args.name.now (Ok tt) ∷ all.0,
      both_made _ _ _ (emptying c.args.name.now (Ok tt) ∷ []) all.0 c.in-Ok.ensures.call all.1,
      opened all.0 refl (rw (sym c.in-Ok.ensures.name) all.2),
    )

pub returns-in-Err : goal.returns-in-Err
returns-in-Err g c =
    (emptying c.args.name.now (Err c.in-Err.error) ∷ [], c.in-Err.ensures.call, not_opened c.in-Err.error refl refl)
