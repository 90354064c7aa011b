use Rattle.std.proofs.Common.{subst}
use Rattle.std.proofs.lemmas.Option.{slice_get_within}
use Rattle.module_table.specs.Prelude.{IsNamedAt, Maker}
use Rattle.module_table.proofs.needed.named_at.Goals as goal

pub bounds-objects-object : goal.bounds-objects-object
bounds-objects-object c =
    let named = λ (m : Maker). IsNamedAt c.args.objects.now c.args.infos.now (m, c.args.origin.1) (c.requires.0, c.requires.1) in
    let at = subst named c.in-Object.is c.requires.2 in
    slice_get_within c.args.objects.now c.in-Object.object at.0 at.1

pub bounds-infos-info : goal.bounds-infos-info
bounds-infos-info c =
    let named = λ (m : Maker). IsNamedAt c.args.objects.now c.args.infos.now (m, c.args.origin.1) (c.requires.0, c.requires.1) in
    let at = subst named c.in-Info.is c.requires.2 in
    slice_get_within c.args.infos.now c.in-Info.info at.1.0 at.1.1
