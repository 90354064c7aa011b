use Rattle.std.proofs.Common.{ap, sym, ◌∙◌, cond, [], ◌∷◌, ◌++◌, take}
use Rattle.std.proofs.lemmas.List.{append-nil}
use Rattle.ninja_text.specs.inner.ComponentLists.{slashes_from}
use Rattle.ninja_text.proofs.Joins.{slashes-step}
use Rattle.ninja_text.proofs.reduction.slashes.Goals as goal
use Rattle.ninja_text.proofs.reduction.slashes.Goals.{then-is_slash+in_ok-push, else-is_slash}

pub loop-index-preserved : goal.loop-index-preserved
loop-index-preserved c =
    let i = c.loop-index.index in
    let step = slashes-step c.args.list.now i c.loop-index-test.true in
    elim c.if-is_slash.branch [
      | then-is_slash+in_ok-push w ↦
          ap (λ v. v.items) w.slashes-is ∙ w.in_ok-push.ensures.items ∙ ap (λ l. l ++ i ∷ []) c.loop-index.invariant
          ∙ ap (λ t. slashes_from 0 (take i c.args.list.now) ++ cond t (i ∷ []) []) (sym w.if-is_slash.true ∙ c.is_slash.ensures) ∙ sym step
      | else-is_slash w ↦
          ap (λ v. v.items) w.slashes-is ∙ c.loop-index.invariant ∙ sym (append-nil (slashes_from 0 (take i c.args.list.now)))
          ∙ ap (λ t. slashes_from 0 (take i c.args.list.now) ++ cond t (i ∷ []) []) (sym w.if-is_slash.false ∙ c.is_slash.ensures) ∙ sym step
    ]
