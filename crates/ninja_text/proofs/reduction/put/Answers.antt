use Rattle.std.proofs.Common.{rules, ◌≡◌, take, sym, ap, ◌∙◌, OnOk, Result, inl, inr}
use Rattle.ninja_text.specs.inner.ComponentLists.{list_text}
use Rattle.ninja_text.proofs.ReducedList.{behind-current}
use Rattle.ninja_text.proofs.ListText.{put-parent, put-behind}
use Rattle.ninja_text.proofs.reduction.put.Goals as goal
use Rattle.ninja_text.proofs.reduction.put.Goals.{then-is_parent+in_default, else-is_parent}

-- a fact of an `Ok` that follows from another
on_ok : {A E P Q : Type 0} (r : Result A E) → (P → Q) → OnOk r P → OnOk r Q
on_ok r f h = search rules

pub returns-then-is_current : goal.returns-then-is_current
returns-then-is_current c before each e = e ∙ ap list_text (sym (behind-current before c.args.component.now (sym c.is_current.ensures ∙ c.if-is_current.true)))

pub returns-in-Some : goal.returns-in-Some
returns-in-Some c before each e =
    let same : c.deref.result.now ≡ c.args.list.now.items = c.deref.ensures.value in
    let found = c.in-Some.ensures in
    c.truncate.ensures.items ∙
    put-parent before c.args.component.now c.args.list.now.items c.in-Some.len each e (sym c.is_parent.ensures ∙ c.if-is_parent.true)
    (λ h. found.empty (same ∙ h))
    (λ init last lacks not_current k. let p = found.last init last lacks not_current (same ∙ k) in (p.0, ap (take c.in-Some.len) (sym same) ∙ p.1))

pub returns : goal.returns
returns c =
    on_ok c.append.result
    (λ made before each e.
    put-behind before c.args.component.now c.args.list.now.items c.append.new.list.items each e (sym c.is_current.ensures ∙ c.if-is_current.false)
    (elim c.if-is_parent.branch [
      | then-is_parent+in_default w ↦ inr (λ init last lacks not_current k.
          rw w.in_default.is at (w.len_without_name.ensures.last init last lacks not_current (w.deref.ensures.value ∙ k)))
      | else-is_parent w ↦ inl (sym c.is_parent.ensures ∙ w.if-is_parent.false)
    ]) made) c.append.ensures
