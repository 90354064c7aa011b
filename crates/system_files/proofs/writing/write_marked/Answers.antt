use Rattle.std.proofs.Common.{◌∷◌, [], refl, Ok, Err, inl, inr}
use Rattle.system_files.specs.declared.disk.Kind.TheVariants.{File, Link, Other}
use Rattle.system_files.specs.Prelude.{looking}
use Rattle.system_files.proofs.ForCallers.{both_made}
use Rattle.system_files.proofs.writing.write_marked.Goals as goal

pub returns-in-Ok-Link : goal.returns-in-Ok-Link
returns-in-Ok-Link g c =
    let all = c.write_behind_link.ensures in
    let call = looking c.args.name.now (Ok Link) in
    (call ∷ all.0, both_made _ _ _ (call ∷ []) all.0 (rw (c.in-Ok-Link.is, c.in-Ok-Link.field-0-is) at c.look.ensures) all.1, (Ok Link, all.0, refl, all.2))

pub returns-in-Ok-File : goal.returns-in-Ok-File
returns-in-Ok-File g c =
    let all = c.write_whole.ensures in
    let found = Ok (File c.in-Ok-File.permissions) in
    let call = looking c.args.name.now found in
    (call ∷ all.0, both_made _ _ _ (call ∷ []) all.0 (rw (c.in-Ok-File.is, c.in-Ok-File.field-0-is) at c.look.ensures) all.1, (found, all.0, refl, all.2))

pub returns-in-Ok-Other : goal.returns-in-Ok-Other
returns-in-Ok-Other g c =
    let all = c.write_in_place.ensures in
    let call = looking c.args.name.now (Ok Other) in
    (call ∷ all.0, both_made _ _ _ (call ∷ []) all.0 (rw (c.in-Ok-Other.is, c.in-Ok-Other.field-0-is) at c.look.ensures) all.1, (Ok Other, all.0, refl, all.2))

pub returns-in-Err : goal.returns-in-Err
returns-in-Err g c =
    let all = c.write_whole-in-Err.ensures in
    let call = looking c.args.name.now (Err c.in-Err.error) in
    (call ∷ all.0, both_made _ _ _ (call ∷ []) all.0 c.in-Err.ensures all.1, (Err c.in-Err.error, all.0, refl, inl (rw c.if-has_kind.true at c.has_kind.ensures, all.2)))

pub returns-in-Err-2 : goal.returns-in-Err-2
returns-in-Err-2 g c =
    let all = c.write_in_place_after.ensures in
    let call = looking c.args.name.now (Err c.in-Err.error) in
    (call ∷ all.0, both_made _ _ _ (call ∷ []) all.0 c.in-Err.ensures all.1, (Err c.in-Err.error, all.0, refl, inr (rw c.if-has_kind.false at c.has_kind.ensures, all.2)))
