use Rattle.std.proofs.Common.{◌≡◌, ◌++◌, ◌∷◌, ap, ◌∙◌, take, length, MatchOption, subst}
use Rattle.std.specs.List.{prefix_len}
use Rattle.ninja_text.specs.Reduction.{components, is_parent}
use Rattle.ninja_text.proofs.Directories.{ending-some, ending-none}
use Rattle.ninja_text.proofs.work_directory.NameEnding.of.Goals as goal
use Rattle.ninja_text.proofs.work_directory.NameEnding.of.Goals.{in-Some+in_ok-list-in-Some, in-None}

pub invariant_of-result : goal.invariant_of-result
invariant_of-result c =
    let text = c.args.text.now in
    let first = c.first_component-first.result.0 in
    let ends = c.first_component-first.ensures in
    let parents = c.parents-parents.ensures ∙ ap (λ l. prefix_len is_parent (components l)) c.deref.ensures.value in
    elim c.match-rest.branch [
      | in-Some+in_ok-list-in-Some w ↦
          let at = subst (λ o. MatchOption o (first ≡ length text) (λ rest. text ≡ take first text ++ 47 ∷ rest.now)) w.in-Some.is ends.rest in
          ending-some text w.in-Some.rest.now c.match-rest.list.items first c.parents-parents.result c.first_unwritable.result ends.bound ends.lacks at
          (ap (λ v. v.items) w.list-is ∙ w.in_ok-list-in-Some.ensures) parents c.first_unwritable.ensures
      | in-None w ↦
          let at = subst (λ o. MatchOption o (first ≡ length text) (λ rest. text ≡ take first text ++ 47 ∷ rest.now)) w.in-None.is ends.rest in
          ending-none text c.match-rest.list.items first c.parents-parents.result c.first_unwritable.result ends.bound ends.lacks at
          (ap (λ v. v.items) w.list-is ∙ w.new-list.ensures.items) parents c.first_unwritable.ensures
    ]
