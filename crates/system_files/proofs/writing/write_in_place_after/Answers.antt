use Rattle.std.proofs.Common.{[], refl, inl, inr}
use Rattle.system_files.proofs.ForCallers.{none_made}
use Rattle.system_files.proofs.writing.write_in_place_after.Goals as goal

pub returns-in-Ok : goal.returns-in-Ok
returns-in-Ok g c =
    let all = c.write_in_place.ensures in
    (all.0, all.1, inl (c.in-Ok.ensures.1, all.2))

pub returns-in-Err : goal.returns-in-Err
returns-in-Err g c =
    let same = c.in-Err.ensures.0 in
    ([], none_made _, inr (c.in-Err.ensures.1, refl, (cc)))
