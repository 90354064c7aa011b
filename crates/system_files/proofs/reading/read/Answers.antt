use Rattle.std.proofs.Common.{◌∷◌, [], refl, sym, Ok, inr}
use Rattle.system_files.specs.Prelude.{opening}
use Rattle.system_files.proofs.ForCallers.{both_made}
use Rattle.system_files.proofs.reading.read.Goals as goal

pub returns-in-Ok : goal.returns-in-Ok
returns-in-Ok g c =
    let all = c.read_open.ensures in
    let call = opening c.args.name.now (Ok tt) in
    (call ∷ all.0, both_made _ _ _ (call ∷ []) all.0 c.in-Ok.ensures.call all.1, inr (all.0, refl, rw (sym c.in-Ok.ensures.name) all.2))
