use Rattle.std.proofs.Common.{◌∷◌, [], refl, Ok}
use Rattle.system_files.specs.declared.disk.Kind.TheVariants.{File}
use Rattle.system_files.specs.Prelude.{following}
use Rattle.system_files.proofs.ForCallers.{both_made}
use Rattle.system_files.proofs.reading.has_bytes.Goals as goal

pub returns-in-Ok-File : goal.returns-in-Ok-File
returns-in-Ok-File g c =
    let all = c.has_bytes_inside.ensures in
    let found = Ok (File c.in-Ok-File.field-0-0) in
    let call = following c.args.name.now found in
    (call ∷ all.0, both_made _ _ _ (call ∷ []) all.0 (rw (c.in-Ok-File.is, c.in-Ok-File.field-0-is) at c.follow.ensures) all.1, (found, all.0, refl, all.2))
