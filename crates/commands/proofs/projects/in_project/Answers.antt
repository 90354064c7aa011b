use Rattle.std.proofs.Common.{rules, ◌≡◌, ◌∙◌, ◌<◌, ℕ, List, ◌∷◌, [], ◌++◌, length, map, ap, ap₂, sym, arith, take_all, Vec, Global, Bor}
use Rattle.commands.specs.Prelude.{lent_texts, Listed, ProjectTargetValue, ReadTargetValue, project_target}
use Rattle.commands.proofs.Targets.{same_at, same_length}
use Rattle.commands.proofs.Outcomes.{at_index, mapped_next}
use Rattle.commands.proofs.projects.in_project.Goals as goal

abbrev texts : Vec (Listed (Bor (List ℕ))) Global → List (List ℕ)
texts lent = lent_texts lent.items

-- what a target is for the project
its_part : (part : ProjectTargetValue) (t : ReadTargetValue) → part.name ≡ t.spec.target → part.setting ≡ t.spec.setting → part.scans ≡ t.scans →
    part.linked ≡ t.linked → part.kept ≡ t.spec.kept →
    part ≡ project_target t
its_part part t name setting scans linked kept =
    λ i. record { name = name i; setting = setting i; scans = scans i; linked = linked i; kept = kept i }

-- one target more
pub loop-index-preserved : goal.loop-index-preserved
loop-index-preserved c =
    let targets = c.args.targets.now in
    let scans = c.args.scans.now in
    let i : ℕ = c.loop-index.index in
    let within : i < length targets = c.loop-index-test.true in
    let same : length scans ≡ length targets = same_length texts (λ (t : ReadTargetValue). t.scans) scans targets c.requires in
    let own = ap lent_texts c.deref.ensures.value
    ∙ same_at texts (λ (t : ReadTargetValue). t.scans) scans targets i c.index-scans-index.result c.index-targets-index.result c.requires
    (at_index scans i c.index-scans-index.result (omega (arith, within, same)) c.index-scans-index.is)
    (at_index targets i c.index-targets-index.result within c.index-targets-index.is) in
    rw c.in_ok-parts-2.ensures
    (ap₂ (λ a b. a ++ b ∷ []) c.loop-index.invariant (its_part _ c.index-targets-index.result (search rules) (search rules) own (search rules) (search rules))
    ∙ sym {A = List ProjectTargetValue} (mapped_next project_target targets i c.index-targets-index.result within c.index-targets-index.is))

-- each target has its scan documents
pub bounds-scans-index : goal.bounds-scans-index
bounds-scans-index c =
    let targets = c.args.targets.now in
    let within : c.loop-index.index < length targets = c.loop-index-test.true in
    let same : length c.args.scans.now ≡ length targets = same_length texts (λ (t : ReadTargetValue). t.scans) c.args.scans.now targets c.requires in
    omega (arith, within, same)

pub returns : goal.returns
returns c = c.loop-index.invariant ∙ ap (map project_target) (take_all c.loop-index.index c.args.targets.now c.loop-index-test.false)
