use Rattle.std.proofs.Common.{◌∙◌, ◌++◌, ◌∷◌, [], ap}
use Rattle.std.proofs.lemmas.Result.{on_ok_weaker}
use Rattle.build_effect.specs.Prelude.{line_feed, edge_line}
use Rattle.build_effect.specs.contracts.graph.Edge.{the_view}
use Rattle.build_effect.proofs.WrittenListings.{line_grown, appended}
use Rattle.build_effect.proofs.graph.push_line.Goals as goal

pub returns : goal.returns
returns c =
    let text = c.args.text.now.items in
    on_ok_weaker c.extend_from_slice-4.result (λ more. more ∙ line_grown text (the_view c.edge.inside) c.in_ok-extend_from_slice.ensures.items
    c.in_ok-push_spaced.ensures c.deref.ensures.value c.in_ok-push_part.ensures c.deref-2.ensures.value c.in_ok-extend_from_slice-2.ensures.items
    c.in_ok-extend_from_slice-3.ensures.items c.deref-3.ensures.value c.in_ok-push_spaced-2.ensures c.deref-4.ensures.value c.in_ok-push_part-2.ensures
    c.deref-5.ensures.value c.in_ok-push_part-3.ensures c.deref-6.ensures.value ∙ ap (λ e. text ++ edge_line e) c.edge.view_is)
    (appended c.extend_from_slice-4.result _ _ (line_feed ∷ []) c.extend_from_slice-4.ensures.items)
