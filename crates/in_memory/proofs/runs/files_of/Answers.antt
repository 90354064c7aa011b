use Rattle.std.proofs.Common.{if◌then◌else◌, rules, tests, ◌≡◌, ◌∙◌, [], ◌∷◌, ◌++◌, length, true, ap, sym, subst, append_assoc, append-nil, inr}
use Rattle.in_memory.specs.Prelude.{AreCut}
use Rattle.in_memory.proofs.Cuts.{both, longer, no_files, no_first, shorter, some_left}
use Rattle.in_memory.proofs.runs.files_of.Goals as goal
use Rattle.in_memory.proofs.runs.files_of.Goals.{then-not-is_empty-via-then-not-is_empty, then-not-is_empty-via-else-not-is_empty+then-not-is_empty-2}

-- one file more
pub loop-file-preserved : goal.loop-file-preserved
loop-file-preserved c =
    let l = c.loop-file in
    let file = c.in-Some.file in
    let more = c.in-Some.more.now in
    let after = c.in-Some.after.now in
    let first = c.in-Some.ensures.some in (
      (
        (λ cut. l.invariant.0.0 (file ∷ cut.0, longer l.left.now l.rest.now file more after first cut.0 cut.1)),
        (λ cut. let all = l.invariant.0.1 cut in shorter l.left.now l.rest.now file more after first all.0 all.1),
      ),
      (λ stored others cut.
          let so_far = both l.stored c.is_ok-stored.result stored in
          let items = c.push.ensures.items ∙ ap (λ b. if b then l.files.items ++ file ∷ [] else l.files.items) (sym c.is_ok-stored.ensures.value ∙ so_far.1) in
          subst (AreCut c.args.lengths.now c.args.text.now) (sym (ap (λ fs. fs ++ others) items ∙ append_assoc l.files.items (file ∷ []) others))
          (l.invariant.1 so_far.0 (file ∷ others) (longer l.left.now l.rest.now file more after first others cut))),
    )

-- something is left
pub returns-then-not-is_empty-clause-outcome : goal.returns-then-not-is_empty-clause-outcome
returns-then-not-is_empty-clause-outcome c = inr (
  (λ cut.
      let left = c.loop-file.invariant.0.1 cut in
      let none = no_first c.loop-file.left.now c.loop-file.rest.now left.0 c.in_default.ensures.none left.1 in
      elim c.then-not-is_empty.branch [
        | then-not-is_empty-via-then-not-is_empty w ↦ some_left c.loop-file.left.now c.is_empty.result c.is_empty.ensures (search (rules, tests)) none.0
        | then-not-is_empty-via-else-not-is_empty+then-not-is_empty-2 w ↦
            some_left c.loop-file.rest.now w.is_empty-else-not-is_empty.result w.is_empty-else-not-is_empty.ensures (search (rules, tests)) none.1
      ]),
  c.without.ensures,
)

-- nothing is left
pub returns-clause-files : goal.returns-clause-files
returns-clause-files c =
    let stored : c.loop-file.stored ≡ true = search (rules, tests) in
    let no_lengths : length c.loop-file.left.now ≡ 0 = search (rules, tests) in
    let no_text : length c.loop-file.rest.now ≡ 0 = search (rules, tests) in
    rw (append-nil c.loop-file.files.items) at
    (c.loop-file.invariant.1 stored [] (no_files c.loop-file.left.now c.loop-file.rest.now no_lengths no_text))
