use Rattle.std.proofs.Common.{rules, ◌∷◌, ◌+◌, drop, ◌≡◌, ◌∙◌, ℕ, ◌<◌, ◌≤◌, List, [], None, Some, true, length, zip, get_or, refl, ap, sym, arith, slice_get, Ok, Err}
use Rattle.std.proofs.lemmas.List.{drop_all}
use Rattle.std.proofs.lemmas.Slice.Zip.{length-zip}
use Rattle.commands.specs.declared.read_targets.ReadTarget.TheInside.{Inside}
use Rattle.commands.specs.Prelude.{CollatedValue, EdgesPass, ListingRead, Outcome, stops, ReadTargetValue, AllEdgesPass, At, IsTargetOutcome, Passes, list_value}
use Rattle.commands.proofs.Outcomes.{at_index, drop_next, next, passed}
use Rattle.commands.proofs.Targets.{all_out_of_memory}
use Rattle.ninja_text.proofs.ForCallers.{element_at, to_zip}
use Rattle.commands.proofs.projects.all_pass.Goals as goal
use Rattle.commands.proofs.projects.all_pass.Goals.{After-pass_list-own}

pub returns-in_err-passed : goal.returns-in_err-passed
returns-in_err-passed c = rw (passed c.from_residual.ensures) (all_out_of_memory 0 (zip c.args.targets.now c.args.outs.now))

-- the target at this index passes, and all that are left do what the others do
passes_on : (targets : List ReadTargetValue) (outs : List CollatedValue) (index : ℕ) (t : ReadTargetValue) (c : CollatedValue) (s : Outcome (Unit {0})) →
    slice_get targets index ≡ Some t → slice_get outs index ≡ Some c → Passes t c →
    AllEdgesPass (index + 1) (drop (index + 1) (zip targets outs)) [] s → AllEdgesPass index (drop index (zip targets outs)) [] s
passes_on targets outs index t c s at_t at_c own h =
    rw (drop_next (zip targets outs) index (t, c) (to_zip targets outs index t c at_t at_c))
    (next {First = At index (EdgesPass t.listing t.spec.dyndep_path c.dyndep)} tt (Ok tt, own, refl) h)

pub loop-index-preserved-then-index : goal.loop-index-preserved-then-index
loop-index-preserved-then-index c =
    let marks = c.in_ok-passed.passed.items in
    let within : c.loop-index.index < length marks = omega (arith, c.loop-index-test.true, c.in_ok-passed.ensures.0) in
    let set : true ≡ get_or marks c.loop-index.index true = search rules in
    let (t, out, at_t, at_out, own) = c.in_ok-passed.ensures.1 c.loop-index.index (at_index marks c.loop-index.index true within set) in
    λ s h. c.loop-index.invariant s (passes_on c.args.targets.now c.args.outs.now c.loop-index.index t out s at_t at_out own h)

-- the check of one target, as its document has the listing and the path
at_own : (view t : ReadTargetValue) (collated : CollatedValue) (listing : ListingRead) (path : List ℕ) (index : ℕ) (own s : Outcome (Unit {0})) →
    view ≡ t → view.listing ≡ Some listing → path ≡ view.spec.dyndep_path → EdgesPass (Some listing) path collated.dyndep [] own →
    IsTargetOutcome index own s → At index (EdgesPass t.listing t.spec.dyndep_path collated.dyndep) [] s
at_own view t collated listing path index own s v l p h is =
    (own, rw (← v, l) (rw p at h), is)

-- the targets that are left
left : (c : After-pass_list-own) → drop c.loop-index.index (zip c.args.targets.now c.args.outs.now)
    ≡ (c.index-targets-index.result, c.index-outs-index.result) ∷ drop (c.loop-index.index + 1) (zip c.args.targets.now c.args.outs.now)
left c =
    let within : c.loop-index.index < length c.args.targets.now = c.loop-index-test.true in
    drop_next (zip c.args.targets.now c.args.outs.now) _ _
    (to_zip c.args.targets.now c.args.outs.now _ _ _ (at_index c.args.targets.now _ _ within c.index-targets-index.is)
    (at_index c.args.outs.now _ _ (omega (arith, within, c.requires.each)) c.index-outs-index.is))

-- the check of the first of them
checked : (c : After-pass_list-own) (s : Outcome (Unit {0})) → IsTargetOutcome c.loop-index.index c.pass_list-own.result s →
    At c.loop-index.index (EdgesPass c.index-targets-index.result.listing c.index-targets-index.result.spec.dyndep_path c.index-outs-index.result.dyndep) [] s
checked c s is =
    at_own _ c.index-targets-index.result c.index-outs-index.result _ _ c.loop-index.index c.pass_list-own.result s c.target.view_is
    (sym (ap (λ (i : Inside). list_value i.listing) c.target-inside.view_is) ∙ ap list_value c.in-Some.is ∙ ap Some (sym c.deref.ensures))
    (ap (λ (i : Inside). i.spec.dyndep_path) c.target-inside.view_is) c.pass_list-own.ensures is

pub loop-index-preserved-in_default : goal.loop-index-preserved-in_default
loop-index-preserved-in_default c =
    let targets = c.args.targets.now in
    let outs = c.args.outs.now in
    let i : ℕ = c.loop-index.index in
    let within : i < length targets = c.loop-index-test.true in
    let t = c.index-targets-index.result in
    let none : t.listing ≡ None = sym (ap (λ (view : ReadTargetValue). view.listing) c.target.view_is)
    ∙ sym (ap (λ (i : Inside). list_value i.listing) c.target-inside.view_is) ∙ ap list_value c.in_default.is in
    let (out, at_out) = element_at outs i (omega (arith, within, c.requires.each)) in
    λ s h. c.loop-index.invariant s
    (passes_on targets outs i t out s (at_index targets i t within c.index-targets-index.is) at_out (rw none (refl, refl)) h)

pub loop-index-preserved : goal.loop-index-preserved
loop-index-preserved c =
    let before = (goal.at.loop-index-preserved c).After-pass_list-own in
    λ s h. c.loop-index.invariant s (rw (left before)
    (next _ (checked before (Ok tt) c.in_ok-at_target.ensures) h))

-- the edges of this one can't be put in order
pub returns-in_err-at_target : goal.returns-in_err-at_target
returns-in_err-at_target c =
    let before = (goal.at.returns-in_err-at_target c).After-pass_list-own in
    let stop : Outcome (Unit {0}) = Err c.in_err-at_target.field-0.0 in
    rw (passed c.from_residual-in_err-at_target.ensures)
    (c.loop-index.invariant stop (rw (left before)
    (stops _ (checked before stop c.in_err-at_target.ensures) refl)))

pub returns : goal.returns
returns c =
    let targets = c.args.targets.now in
    let outs = c.args.outs.now in
    let i : ℕ = c.loop-index.index in
    let past : length (zip targets outs) ≤ i = omega (arith, length-zip targets outs, c.loop-index-test.false) in
    c.loop-index.invariant (Ok tt)
    (rw (drop_all i (zip targets outs) past) (refl, refl))
