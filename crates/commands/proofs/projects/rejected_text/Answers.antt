use Rattle.std.proofs.Common.{◌≡◌, ◌∙◌, ◌<◌, ℕ, List, All, length, get_or, map, ap, subst, sym, Vec, Global, Bor}
use Rattle.std.proofs.lemmas.List.{map_push, take_all}
use Rattle.std.proofs.lemmas.Option.{get_or_from_slice_get}
use Rattle.std.proofs.lemmas.Result.{IfOk-weaker}
use Rattle.commands.specs.Prelude.{RefusedTarget, ReadTargetValue, names_at, target_text, IsReportable, ReportsAt, refusal_line}
use Rattle.commands.specs.declared.read_targets.ReadTarget.TheInside.{Inside}
use Rattle.commands.proofs.Outcomes.{at_index}
use Rattle.commands.proofs.Targets.{names_next}
use Rattle.commands.proofs.projects.rejected_text.Goals as goal

abbrev texts : List (Bor (List ℕ)) → List (List ℕ)
texts lent = map (λ text. text.now) lent

-- the target of this index links some that are there
links_there : (targets : List ReadTargetValue) (index : ℕ) (target : ReadTargetValue) (linked : List ℕ) →
    IsReportable targets index → target ≡ get_or targets index target → linked ≡ target.linked → All (λ k. k < length targets) linked
links_there targets index target linked (t, here, there) at are =
    subst (All (λ k. k < length targets)) (sym (are ∙ ap (λ (t : ReadTargetValue). t.linked) (at ∙ get_or_from_slice_get targets index t target here))) there

-- one name more
pub loop-earlier-preserved : goal.loop-earlier-preserved
loop-earlier-preserved c =
    let targets = c.args.targets.now in
    let linked = c.deref-earlier-items.result.now in
    let i : ℕ = c.loop-earlier.earlier-index in
    let t = c.index-targets-earlier.result in
    let within = links_there targets c.args.index c.index-targets-index.result linked c.requires c.index-targets-index.is
    (c.deref-earlier-items.ensures.value ∙ ap (λ (t : ReadTargetValue). t.linked) c.target.view_is) i 0 c.loop-earlier-test.true in
    let named = ap (λ (i : Inside). i.spec.target) c.linked-inside.view_is ∙ ap (λ (t : ReadTargetValue). t.spec.target) c.linked.view_is in
    rw (c.in_ok-names-2.ensures, map_push (λ (n : Bor (List ℕ)). n.now))
    (names_next targets linked i t _ _ c.loop-earlier-test.true (at_index targets (get_or linked i 0) t within c.index-targets-earlier.is)
    c.loop-earlier.invariant named)

pub returns : goal.returns
returns c =
    let targets = c.args.targets.now in
    let index : ℕ = c.args.index in
    let refused : RefusedTarget = c.args.refused.now in
    let linked = c.deref-earlier-items.result.now in
    let names = ap texts c.deref-2.ensures.value ∙ c.loop-earlier.invariant ∙
    ap (names_at targets) (take_all c.loop-earlier.earlier-index linked c.loop-earlier-test.false) in
    IfOk-weaker c.target_text.result _ (λ (text : Vec ℕ Global). ReportsAt targets index refused text.items)
    (λ message is target at.
    let same = c.target.view_is ∙ c.index-targets-index.is ∙ get_or_from_slice_get targets index target c.index-targets-index.result at in
    let text =
    c.deref-3.ensures.value ∙ c.in_ok-text.ensures ∙ ap (λ objects. refusal_line objects (texts c.deref-2.result.now) refused.refusal) c.deref.ensures.value
    ∙ ap (λ ns. refusal_line refused.objects.items ns refused.refusal)
    (names ∙ ap (names_at targets) (c.deref-earlier-items.ensures.value ∙ ap (λ (t : ReadTargetValue). t.linked) same)) in
    is ∙ ap (target_text index) text)
    c.target_text.ensures

-- a target that is linked is there
pub bounds-targets-earlier : goal.bounds-targets-earlier
bounds-targets-earlier c =
    links_there c.args.targets.now c.args.index c.index-targets-index.result c.deref-earlier-items.result.now c.requires c.index-targets-index.is
    (c.deref-earlier-items.ensures.value ∙ ap (λ (t : ReadTargetValue). t.linked) c.target.view_is) c.loop-earlier.earlier-index 0 c.loop-earlier-test.true
