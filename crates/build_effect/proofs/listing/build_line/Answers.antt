use Rattle.std.proofs.Common.{◌≡◌, ◌++◌, ◌∷◌, [], ◌∙◌, sym, ap, subst, Ok}
use Rattle.build_effect.proofs.ListingLaws.{HaveOutputs, outputs_pushed, build_passes, unmapped}
use Rattle.build_effect.proofs.listing.build_line.Goals as goal
use Rattle.build_effect.proofs.listing.build_line.Goals.{In_ok-edge}

of : (c : In_ok-edge) → c.edge_of.result ≡ Ok c.in_ok-edge.edge
of c = unmapped _ c.edge_of.result c.map_err.result c.in_ok-edge.edge c.map_err.ensures.cases c.in_ok-edge.was

pub invariant_of-state-2 : goal.invariant_of-state-2
invariant_of-state-2 c =
    subst HaveOutputs (sym c.in_ok-push.ensures.items)
    (outputs_pushed c.state.inside.edges.items c.in_ok-edge.edge c.state.invariant
    (rw (of (goal.at.invariant_of-state-2 c).In_ok-edge) at c.edge_of.ensures.outputs))

pub returns : goal.returns
returns c =
    build_passes c.args.state.now c.push.new.self.items (sym c.in_ok-texts.ensures ∙ c.in-Some.is)
    (rw (of (goal.at.returns c).In_ok-edge) at c.edge_of.ensures.edge)
    (c.in_ok-push.ensures.items ∙ ap (λ v. v.edges ++ c.in_ok-edge.edge ∷ []) c.state.view_is)
