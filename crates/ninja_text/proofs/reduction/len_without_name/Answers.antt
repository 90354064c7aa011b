use Rattle.std.proofs.Common.{sym, ap, ◌∙◌, List, ℕ, ◌≤◌, ◌<◌, ◌≡◌, ◌≢◌, ◌-◌, length, get_or, rules, tests}
use Rattle.ninja_text.specs.Reduction.{is_parent}
use Rattle.ninja_text.proofs.ListText.{start-of, last-of, init-of, not-all}
use Rattle.ninja_text.proofs.reduction.len_without_name.Goals as goal
use Rattle.ninja_text.proofs.reduction.len_without_name.Goals.{then-start-list, else-start-list, After-map_or-start}

-- the last component begins at the start
record Found (list : List ℕ) (start : ℕ) : Type 0 where
  bound : start ≤ length list
  slash : 0 < start → get_or list (start - 1) 0 ≡ 47
  rest : (k : ℕ) → start ≤ k → k < length list → get_or list k 0 ≢ 47

found : (c : After-map_or-start) → Found c.args.list.now c.map_or-start.result
found c = record {
  bound = search (rules, tests);
  slash = search (rules, tests);
  rest = search (rules, tests);
}

pub returns-then-is_parent-clause-last : goal.returns-then-is_parent-clause-last
returns-then-is_parent-clause-last c init last lacks not_current e =
    let f = found (goal.at.returns-then-is_parent-clause-last c).After-map_or-start in
    let s = start-of c.args.list.now init last c.map_or-start.result e lacks f.bound f.slash f.rest in
    let no = not-all c.args.list.now init last c.map_or-start.result e s not_current in
    let same = last-of c.args.list.now init last c.map_or-start.result e s in
    elim c.if-start-list.branch [
      | then-start-list w ↦ absurd (no w.if-start-list.true)
      | else-start-list w ↦ ap is_parent (sym same) ∙ sym w.is_parent.ensures ∙ sym w.value-is ∙
          c.if-is_parent.true
    ]

pub returns-else-is_parent-clause-last : goal.returns-else-is_parent-clause-last
returns-else-is_parent-clause-last c init last lacks not_current e =
    let f = found (goal.at.returns-else-is_parent-clause-last c).After-map_or-start in
    let s = start-of c.args.list.now init last c.map_or-start.result e lacks f.bound f.slash f.rest in
    let no = not-all c.args.list.now init last c.map_or-start.result e s not_current in
    let same = last-of c.args.list.now init last c.map_or-start.result e s in (
      elim c.if-start-list.branch [
        | then-start-list w ↦ absurd (no w.if-start-list.true)
        | else-start-list w ↦ ap is_parent (sym same) ∙ sym w.is_parent.ensures ∙ sym w.value-is ∙
            c.if-is_parent.false
      ],
      init-of c.args.list.now init last c.map_or-start.result c.saturating_sub.result e s c.saturating_sub.ensures,
    )
