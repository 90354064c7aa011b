use Rattle.std.proofs.Common.{◌≡◌, ◌-◌, ◌++◌, min, length, ap, sym, ◌∙◌, arith, option_copied, cond, Err}
use Rattle.ninja_text.specs.Paths.{is_rooted}
use Rattle.ninja_text.specs.PathShape.{parts}
use Rattle.ninja_text.specs.inner.ComponentLists.{appended}
use Rattle.ninja_text.specs.inner.Joins.{glued}
use Rattle.ninja_text.proofs.Joins.{up}
use Rattle.ninja_text.proofs.Directories.{listed, long-read, glued-appended, glued-alone}
use Rattle.ninja_text.proofs.work_directory.WorkDirectory.joined.Goals as goal
use Rattle.ninja_text.proofs.work_directory.WorkDirectory.joined.Goals.{After-min-dropped, Joined-not-is_empty-2, then-is_empty, else-is_empty, then-not-is_empty-2+in_ok-append, else-not-is_empty-2}

-- how many names of the directory are dropped
dropped : (c : After-min-dropped) → c.min-dropped.result ≡ min c.args.parents (length (parts c.args.self.now) - up (parts c.args.self.now))
dropped c = c.min-dropped.ensures ∙ ap (min c.args.parents) (c.self.invariant.names_are ∙ ap (λ t. length (parts t) - up (parts t)) c.self.view_is)

-- the list is what is left of the directory's list and of the other
whole : (c : Joined-not-is_empty-2) → c.if-not-is_empty-2.list.items ≡ glued c.without_last-front.result.now c.without_parents-rest.result.now
whole c =
    let front = c.without_last-front.result.now in
    let rest = c.without_parents-rest.result.now in
    let before = c.in_ok-extend_from_slice.ensures.items ∙ ap (λ l. l ++ front) c.in_ok-list.ensures.items in
    elim c.if-not-is_empty-2.branch [
      | then-not-is_empty-2+in_ok-append w ↦
          ap (λ v. v.items) w.list-is ∙ w.in_ok-append.ensures ∙ ap (λ l. appended l rest) before
          ∙ glued-appended front rest c.is_empty-3.result c.is_empty-3.ensures w.if-not-is_empty-2.true
      | else-not-is_empty-2 w ↦
          ap (λ v. v.items) w.list-is ∙ before ∙ glued-alone front rest c.is_empty-3.result c.is_empty-3.ensures w.if-not-is_empty-2.false
    ]

pub finished-requires-clause-some : goal.finished-requires-clause-some
finished-requires-clause-some c =
    let at = goal.at.finished-requires-clause-some c in (
      _,
      listed c.requires.some.1 (dropped at.After-min-dropped) c.without_last-front.ensures c.without_parents-rest.ensures (whole at.Joined-not-is_empty-2)
          (c.is_rooted-rooted.ensures ∙ ap is_rooted c.self.view_is),
    )

pub returns : goal.returns
returns c text r =
    let at = goal.at.returns c in
    c.finished.ensures text
    (listed r (dropped at.After-min-dropped) c.without_last-front.ensures c.without_parents-rest.ensures (whole at.Joined-not-is_empty-2)
    (c.is_rooted-rooted.ensures ∙ ap is_rooted c.self.view_is))

pub returns-then-saturating_add-list_limit : goal.returns-then-saturating_add-list_limit
returns-then-saturating_add-list_limit c text r =
    let front = c.without_last-front.result.now in
    let rest = c.without_parents-rest.result.now in
    let first : c.if-is_empty.first.now ≡ cond c.is_empty.result rest front = elim c.if-is_empty.branch [
      | then-is_empty w ↦ ap (λ b. b.now) w.first-is ∙ ap (λ t. cond t rest front) (sym w.if-is_empty.true)
      | else-is_empty w ↦ ap (λ b. b.now) w.first-is ∙ ap (λ t. cond t rest front) (sym w.if-is_empty.false)
    ] in
    long-read (option_copied c.args.build) c.list_limit.ensures.path c.requires.build r
    (dropped (goal.at.returns-then-saturating_add-list_limit c).After-min-dropped)
    c.without_last-front.ensures c.without_parents-rest.ensures (c.is_rooted-rooted.ensures ∙ ap is_rooted c.self.view_is)
    (omega (arith, c.saturating_add.ensures, c.if-saturating_add-list_limit.true, c.list_limit.ensures.value)) c.is_empty.ensures first
    c.is_above_root-above.ensures
    ∙ ap Err (sym c.long_fault.ensures)
