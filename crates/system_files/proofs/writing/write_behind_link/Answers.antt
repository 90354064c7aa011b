use Rattle.std.proofs.Common.{◌∷◌, [], refl, Ok, Err, string_bytes}
use Rattle.system_files.specs.Prelude.{resolving}
use Rattle.system_files.proofs.ForCallers.{both_made}
use Rattle.system_files.proofs.writing.write_behind_link.Goals as goal

pub returns-in-Ok : goal.returns-in-Ok
returns-in-Ok g c =
    let all = rw c.as_str.ensures.value at c.write_target.ensures in
    let call = resolving c.args.link.now (Ok (string_bytes c.in-Ok.target)) in
    (call ∷ all.0, both_made _ _ _ (call ∷ []) all.0 c.in-Ok.ensures all.1, (Ok (string_bytes c.in-Ok.target), all.0, refl, all.2))

pub returns-in-Err : goal.returns-in-Err
returns-in-Err g c =
    let all = c.write_through.ensures in
    let call = resolving c.args.link.now (Err c.in-Err.error) in
    (call ∷ all.0, both_made _ _ _ (call ∷ []) all.0 c.in-Err.ensures all.1, (Err c.in-Err.error, all.0, refl, all.2))
