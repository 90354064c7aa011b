use Rattle.std.proofs.Common.{◌≡◌, ◌∙◌, ℕ, List, [], map, Option, Some, None, refl, ap, sym, subst, IfOk, IfErr, Err, Result, Vec, Global}
use Rattle.commands.specs.Prelude.{Failure, MapForm, ProjectTargetValue, ProjectOut, AllocError, ForFault, Written, table_with, CollatesProject, IsProjectRefusal, WasReadAt, RefusedTarget, style_of, ReadTargetValue, ProjectOf, RejectedAt, IsRejectedAt, project_target, form_of, names_at, rejected_error, target_text, in_target, refusal_location, LinkEarlier, ReportsAt, IsStoppedWith}
use Rattle.scan_docs.specs.declared.map_form.MapForm.TheVariants.{Gcc, Clang}
use Rattle.std.proofs.lemmas.Result.{IfOk-weaker}
use Rattle.commands.specs.declared.location.Location.{Location}
use Rattle.commands.proofs.Outcomes.{its_line, said, Stop}
use Rattle.commands.proofs.Targets.{reported, line_is}
use Rattle.commands.proofs.projects.all_collated.Goals as goal
use Rattle.commands.proofs.projects.all_collated.Goals.{Joined-form_of, in-None, in-Some-Gcc, in-Some-Clang}

abbrev style : List ReadTargetValue → Option Written
style targets = style_of (form_of targets)

abbrev IsRefusalAt : List ReadTargetValue → ℕ → RefusedTarget → Type 0
IsRefusalAt targets n r = IsProjectRefusal (style targets) (map project_target targets) n r.refusal

abbrev ReadAt : List ReadTargetValue → ℕ → RefusedTarget → Type 0
ReadAt targets n r = WasReadAt (style targets) (map project_target targets) n r.refusal (table_with r.objects.items r.infos.items)

-- what the targets collate to, or the rejection of one and what was read of it
abbrev GivesProject : List ProjectTargetValue → Option Written → Result ProjectOut (Failure (ℕ × RefusedTarget)) → Type 0
GivesProject targets style result =
    IfOk result (λ out. CollatesProject style targets out.targets.items)
    × IfErr result (ForFault (λ r. IsProjectRefusal style targets r.0 r.1.refusal))
    × IfErr result (ForFault (λ r. WasReadAt style targets r.0 r.1.refusal (table_with r.1.objects.items r.1.infos.items)))

-- of the targets that were read, and of the form that the first one has
of_targets : (targets : List ReadTargetValue) (form : Option MapForm) (parts : List ProjectTargetValue)
    (result outcome : Result ProjectOut (Failure (ℕ × RefusedTarget))) → form ≡ form_of targets → parts ≡ map project_target targets → outcome ≡ result →
    GivesProject parts (style_of form) result → GivesProject (map project_target targets) (style targets) outcome
of_targets targets form parts result outcome same are is h = rw is (rw (are, same) at h)

-- and the outcome is theirs
gives : (c : Joined-form_of) → GivesProject (map project_target c.args.targets.now) (style c.args.targets.now) c.match-form_of.outcome
gives c = elim c.match-form_of.branch [
  | in-None w ↦
      let gives = w.project_or_refused-outcome.ensures in
      of_targets c.args.targets.now None _ w.project_or_refused-outcome.result _ (sym w.in-None.is ∙ c.form_of.ensures)
      (w.deref-in-None.ensures.value ∙ c.in_ok-parts.ensures) w.outcome-is (gives.outcome.collated, gives.outcome.refused, gives.read)
  | in-Some-Gcc w ↦
      let gives = w.project_or_refused-outcome-in-Some-Gcc.ensures in
      of_targets c.args.targets.now (Some Gcc) _ w.project_or_refused-outcome-in-Some-Gcc.result _
      (sym (w.in-Some-Gcc.is ∙ ap Some w.in-Some-Gcc.field-0-is) ∙ c.form_of.ensures)
      (w.deref-in-Some-Gcc.ensures.value ∙ c.in_ok-parts.ensures) w.outcome-is (gives.outcome.collated, gives.outcome.refused, gives.read)
  | in-Some-Clang w ↦
      let gives = w.project_or_refused-outcome-in-Some-Clang.ensures in
      of_targets c.args.targets.now (Some Clang) _ w.project_or_refused-outcome-in-Some-Clang.result _
      (sym (w.in-Some-Clang.is ∙ ap Some w.in-Some-Clang.field-0-is) ∙ c.form_of.ensures)
      (w.deref-in-Some-Clang.ensures.value ∙ c.in_ok-parts.ensures) w.outcome-is (gives.outcome.collated, gives.outcome.refused, gives.read)
]

-- the run stops with the line of the rejected target
rejected : (targets : List ReadTargetValue) (n : ℕ) (r : RefusedTarget) (message : Result (Vec ℕ Global) AllocError) (at : Location) (stop : Stop) →
    LinkEarlier targets →
    IsRefusalAt targets n r → ReadAt targets n r → IfOk message (λ text. ReportsAt targets n r text.items) → at ≡ in_target n (refusal_location r.refusal) →
    IsStoppedWith 1 message at stop →
    ProjectOf targets [] (Err stop)
rejected targets n r message at stop links is read says there h =
    let (t, here, within) = reported (style targets) targets n r.refusal links is in
    let line = line_is (style targets) targets n r.refusal (table_with r.objects.items r.infos.items) t (names_at targets t.linked) here read in
    let its : RejectedAt = record { index = n; target = t; refusal = r.refusal } in
    said (CollatesProject (style targets) (map project_target targets)) (IsRejectedAt targets) (rejected_error targets) its stop (here, is)
    (its_line 1 (rejected_error targets its) message at stop (IfOk-weaker message _ _ (λ text says. says t here ∙ ap (target_text n) line) says) there h)

pub rejected_text-message-requires : goal.rejected_text-message-requires
rejected_text-message-requires c =
    let targets = c.args.targets.now in
    let gives = rw c.in-Err-Fault.is at (gives (goal.at.rejected_text-message-requires c).Joined-form_of) in
    reported (style targets) targets c.in-Err-Fault.index c.in-Err-Fault.refused.refusal c.requires
    (subst (ForFault (λ (r : ℕ × RefusedTarget). IsProjectRefusal (style targets) (map project_target targets) r.0 r.1.refusal)) c.in-Err-Fault.field-0-is
    gives.1)

pub returns-in-Ok : goal.returns-in-Ok
returns-in-Ok c = (refl, (rw c.in-Ok.is at (gives (goal.at.returns-in-Ok c).Joined-form_of)).0)

pub returns : goal.returns
returns c =
    let targets = c.args.targets.now in
    let gives = rw c.in-Err-Fault.is at (gives (goal.at.returns c).Joined-form_of) in
    let refusal = subst (ForFault (λ (r : ℕ × RefusedTarget). IsProjectRefusal (style targets) (map project_target targets) r.0 r.1.refusal))
    c.in-Err-Fault.field-0-is gives.1 in
    let read = subst (ForFault
    (λ (r : ℕ × RefusedTarget). WasReadAt (style targets) (map project_target targets) r.0 r.1.refusal (table_with r.1.objects.items r.1.infos.items)))
    c.in-Err-Fault.field-0-is gives.2 in
    rejected targets c.in-Err-Fault.index c.in-Err-Fault.refused c.rejected_text-message.result _ c.stopped.result c.requires refusal read
    c.rejected_text-message.ensures (ap (in_target c.in-Err-Fault.index) c.location.ensures) c.stopped.ensures
