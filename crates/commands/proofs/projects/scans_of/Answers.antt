use Rattle.std.proofs.Common.{◌≡◌, ◌∙◌, ◌+◌, ℕ, List, ◌∷◌, [], ◌++◌, take, map, ap, ap₂, subst, sym, Vec, Global, Bor}
use Rattle.std.proofs.lemmas.List.{map_push}
use Rattle.commands.specs.Prelude.{cow_slice_items, bytes_of_each, lent_texts, texts_listed, Listed, ReadTargetValue}
use Rattle.commands.proofs.Outcomes.{mapped_next}
use Rattle.commands.proofs.projects.scans_of.Goals as goal

abbrev texts : Vec (Listed (Bor (List ℕ))) Global → List (List ℕ)
texts lent = lent_texts lent.items

-- one target more
pub loop-target-preserved : goal.loop-target-preserved
loop-target-preserved c =
    let targets = c.args.targets.now in
    let i : ℕ = c.loop-target.target-index in
    let lent = c.in_ok-slices.field-0 in
    let here : texts lent ≡ c.target-item.result.scans =
    ap bytes_of_each c.in_ok-slices.ensures ∙ ap (texts_listed cow_slice_items) c.deref.ensures.value ∙ ap (λ (t : ReadTargetValue). t.scans) c.target.view_is in
    subst (λ (all : List (Vec (Listed (Bor (List ℕ))) Global)). map texts all ≡ map (λ (t : ReadTargetValue). t.scans) (take (i + 1) targets))
    (sym c.in_ok-scans-2.ensures)
    (map_push texts c.loop-target.scans.items lent
    ∙ ap₂ (λ a b. a ++ b ∷ []) c.loop-target.invariant here
    ∙ sym {A = List (List (List ℕ))} (mapped_next (λ (t : ReadTargetValue). t.scans) targets i c.target-item.result c.loop-target-test.true c.target-item.is))
