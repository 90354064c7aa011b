use Rattle.std.proofs.Common.{rules, ◌≡◌, ◌∙◌, ℕ, List, [], Some, Ok, Err, Option, Result, IfOk, IfErr, refl, ap}
use Rattle.commands.specs.Prelude.{SettingValue, TargetValue, CollatedValue, Collates, IsRefusal, WasRead, RefusedTarget, Failure, ForFault, Written, table_with, style_of, target_with, TargetFilesValue, Outcome, TargetOf, cow_slice_items, lent_texts, texts_listed, bytes_of_each}
use Rattle.scan_docs.specs.Target as document
use Rattle.scan_docs.specs.declared.map_form.MapForm.TheVariants.{Gcc, Clang}
use Rattle.commands.proofs.Targets.{target_rejected}
use Rattle.commands.proofs.target.collated_of.Goals as goal
use Rattle.commands.proofs.target.collated_of.Goals.{Joined-spec, in-None, in-Some-Gcc, in-Some-Clang}

-- the target of these parts
abbrev target_of : List ℕ → SettingValue → List (List ℕ) → List (List ℕ) → List (List ℕ) → TargetValue
target_of name setting scans infos kept =
    record { name = name; setting = setting; scans = scans; infos = infos; kept = kept }

-- the target that was made is the document's
of_document : (spec view : document.TargetDocumentValue) (files : TargetFilesValue) (scans infos kept : List (List ℕ)) (s : Outcome CollatedValue) →
    view ≡ spec → scans ≡ files.scans → infos ≡ files.infos → kept ≡ view.kept →
    TargetOf (target_of view.target view.setting scans infos kept) (style_of view.map_form) [] s →
    TargetOf (target_with spec files) (style_of spec.map_form) [] s
of_document spec view files scans infos kept s v d i k h = rw (d, i, k, v) at h

-- what it collates to, or its rejection and what was read of it
abbrev GivesTarget : TargetValue → Option Written → Result CollatedValue (Failure RefusedTarget) → Type 0
GivesTarget target style result =
    IfOk result (Collates target style)
    × IfErr result (ForFault (λ r. IsRefusal target style r.refusal))
    × IfErr result (ForFault (λ r. WasRead target r.refusal (table_with r.objects.items r.infos.items)))

-- the target that was collated is the document's
its_target : (c : Joined-spec) (s : Outcome CollatedValue) →
    TargetOf (target_of c.spec.inside.target c.spec.inside.setting (lent_texts c.deref-3.result.now) (lent_texts c.deref-4.result.now) c.deref-5.result.now)
    (style_of c.spec.inside.map) [] s →
    TargetOf (target_with c.args.spec.now c.args.files.now) (style_of c.args.spec.now.map_form) [] s
its_target c s =
    of_document c.args.spec.now _ c.args.files.now _ _ _ s c.spec.view_is
    (ap lent_texts c.deref-3.ensures.value ∙ ap bytes_of_each c.in_ok-scans.ensures ∙ ap (texts_listed cow_slice_items) c.deref.ensures.value
    ∙ ap (λ (f : TargetFilesValue). f.scans) c.files.view_is)
    (ap lent_texts c.deref-4.ensures.value ∙ ap bytes_of_each c.in_ok-infos.ensures ∙ ap (texts_listed cow_slice_items) c.deref-2.ensures.value
    ∙ ap (λ (f : TargetFilesValue). f.infos) c.files.view_is)
    c.deref-5.ensures.value

-- and its outcome has maps of the document's form
gives : (c : Joined-spec) → GivesTarget (target_of c.spec.inside.target c.spec.inside.setting (lent_texts c.deref-3.result.now) (lent_texts c.deref-4.result.now)
    c.deref-5.result.now) (style_of c.spec.inside.map) c.match-spec.outcome
gives c = elim c.match-spec.branch [
  | in-None w ↦
      let gives = w.collate_or_refused-outcome.ensures in
      rw (w.outcome-is, w.in-None.is) (gives.collated, gives.refused, gives.read)
  | in-Some-Gcc w ↦
      let gives = w.collate_or_refused-outcome-in-Some-Gcc.ensures in
      let form : c.spec.inside.map ≡ Some Gcc = search rules in
      rw (w.outcome-is, form) (gives.collated, gives.refused, gives.read)
  | in-Some-Clang w ↦
      let gives = w.collate_or_refused-outcome-in-Some-Clang.ensures in
      let form : c.spec.inside.map ≡ Some Clang = search rules in
      rw (w.outcome-is, form) (gives.collated, gives.refused, gives.read)
]

pub returns-in-Ok : goal.returns-in-Ok
returns-in-Ok c =
    let here = (goal.at.returns-in-Ok c).Joined-spec in
    its_target here (Ok c.in-Ok.collated) (refl, (rw c.in-Ok.is at (gives here)).0)

pub returns : goal.returns
returns c =
    let here = (goal.at.returns c).Joined-spec in
    let gives = rw c.in-Err.is at (gives here) in
    its_target here (Err c.of_target.result)
    (target_rejected _ (style_of c.spec.inside.map) c.in-Err.failure c.of_target.result gives.1 gives.2 c.of_target.ensures)
