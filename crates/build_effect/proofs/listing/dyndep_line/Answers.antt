use Rattle.std.proofs.Common.{◌≡◌, ◌∙◌, Some, false, refl, sym, ap, subst}
use Rattle.build_effect.specs.Prelude.{with_last_dyndep, Open}
use Rattle.build_effect.proofs.ListingLaws.{HaveOutputs, outputs_kept, dyndep_passes, unmapped}
use Rattle.build_effect.proofs.listing.dyndep_line.Goals as goal

pub invariant_of-state : goal.invariant_of-state
invariant_of-state c =
    subst HaveOutputs (sym c.set_last_dyndep.ensures)
    (outputs_kept (λ e. record e { dyndep = Some c.in_ok-path.path }) (λ e. refl) c.state.inside.edges.items c.state.invariant)

pub returns : goal.returns
returns c =
    let i = c.in-Open-false-default.is in
    let from = unmapped _ c.dyndep_path-path.result c.map_err.result c.in_ok-path.path c.map_err.ensures.cases c.in_ok-path.was in
    let t = c.in-Open-false-default.has_dyndep-test in
    let opened : c.state.inside.binding ≡ Open false c.in-Open-false-default.has_restat = cc in
    dyndep_passes c.args.state.now c.set_last_dyndep.new.edges.items c.args.text.items c.in_ok-path.path
    (ap (λ v. v.binding) (sym c.state.view_is) ∙ opened) (rw from at c.dyndep_path-path.ensures)
    (c.set_last_dyndep.ensures ∙ ap (λ v. with_last_dyndep c.in_ok-path.path v.edges) c.state.view_is)
