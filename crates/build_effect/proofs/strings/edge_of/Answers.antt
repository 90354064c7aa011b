use Rattle.std.proofs.Common.{ℕ, List, ◌≡◌, ◌≢◌, ◌∙◌, [], sym, ap, refl, subst}
use Rattle.build_effect.specs.Prelude.{slice_range, paths_of, edge_paths, edge_texts_of}
use Rattle.build_effect.proofs.ListingLaws.{edge_answer, paths_somehow}
use Rattle.build_effect.proofs.strings.edge_of.Goals as goal

pub returns-clause-edge : goal.returns-clause-edge
returns-clause-edge c =
    let at = λ (strings : List (List ℕ)). edge_texts_of c.texts.inside.rule.items strings c.texts.inside.outputs c.texts.inside.implicit_outputs
    c.texts.inside.inputs c.texts.inside.implicit_inputs in
    let texts = at c.in_ok-strings.strings in
    let is : c.args.texts ≡ texts = sym c.texts.view_is ∙ ap at (sym c.in_ok-strings.ensures) in (
      _,
      ap edge_paths is ∙ edge_answer texts c.in_ok-paths.ensures c.in_ok-paths-2.ensures c.in_ok-paths-3.ensures c.in_ok-paths-4.ensures
          (ap (λ to. paths_of (slice_range c.in_ok-strings.strings c.texts.inside.implicit_inputs to)) (sym c.len.ensures) ∙ c.in_ok-paths-5.ensures),
      refl,
    )

pub returns-clause-outputs : goal.returns-clause-outputs
returns-clause-outputs c =
    paths_somehow _ _ c.in_ok-paths.ensures
    (subst (λ strings. slice_range strings 0 c.texts.inside.outputs ≢ []) (sym c.in_ok-strings.ensures) c.texts.invariant.some)
