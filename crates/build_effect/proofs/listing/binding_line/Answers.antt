use Rattle.std.proofs.Common.{rules, tests, ◌≡◌, ◌∙◌, Ok, false, refl, sym, ap, subst}
use Rattle.build_effect.specs.Prelude.{not, option_map, seen_assignment, RestatRow, binding_row, with_last_restat, Open}
use Rattle.build_effect.proofs.ListingLaws.{HaveOutputs, outputs_kept, restat_passes}
use Rattle.build_effect.proofs.listing.binding_line.Goals as goal

pub invariant_of-state : goal.invariant_of-state
invariant_of-state c =
    subst HaveOutputs (sym c.set_last_restat.ensures)
    (outputs_kept (λ e. record e { restat = not c.is_empty.result }) (λ e. refl) c.state.inside.edges.items c.state.invariant)

pub returns-in_ok-value-in-Open-default-false : goal.returns-in_ok-value-in-Open-default-false
returns-in_ok-value-in-Open-default-false c =
    let i = c.in-Open-default-false.is in
    let t = c.in-Open-default-false.has_restat-test in
    let opened : c.state.inside.binding ≡ Open c.in-Open-default-false.has_dyndep false = cc in
    let row : binding_row (option_map seen_assignment c.args.line) ≡ Ok (RestatRow (not c.is_empty.result)) = search (rules, tests) in
    restat_passes c.args.state.now c.set_last_restat.new.edges.items row
    (ap (λ v. v.binding) (sym c.state.view_is) ∙ opened)
    (c.set_last_restat.ensures ∙ ap (λ v. with_last_restat (not c.is_empty.result) v.edges) c.state.view_is)
