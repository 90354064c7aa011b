use Rattle.std.proofs.Common.{Bor, ◌≡◌, ◌==◌, ℕ, ◌+◌, ◌≤◌, not, List, length, map, take, drop, Some, Ok, refl, ap, subst, sym, ◌∙◌, All, slice_get}
use Rattle.std.proofs.lemmas.Option.{slice_get_read}
use Rattle.std.proofs.lemmas.List.Elements.{All-push}
use Rattle.std.proofs.lemmas.Result.{err_from_is_err_and}
use Rattle.collate_core.specs.Prelude.{StatementValue, IsTextOf, IsFinished, RuleValue, tasks_of, module_files, statement_of, statements_of, lent_files, HasSpelled, IsSpelled}
use Rattle.collate_core.proofs.Documents.{built_statement, with_rest, one_more, all_statements}
use Rattle.collate_core.proofs.Parts.{all_spelled, line_refused}
use Rattle.collate_core.proofs.texts.dyndep_text.Goals as goal

pub loop-index-preserved : goal.loop-index-preserved
loop-index-preserved c =
    let t = c.args.table.now in
    let index = c.loop-index.index in
    let rule = c.rule-item.result in
    let here : slice_get t.objects index ≡ Some rule =
    rw (← c.objects-rule-items.ensures.objects) (slice_get_read _ _ _ _ refl c.loop-index-test.true c.rule-item.is) in
    let lent = λ (fs : List (Bor (List ℕ))). All IsSpelled (lent_files fs) in
    let so_far = map statement_of (take index (tasks_of t)) in
    let s : StatementValue = record {
      output = c.bytes.result.now;
      implicit_outputs = lent_files c.deref-in-loop-index.result.now;
      implicit_inputs = lent_files c.deref-in-loop-index-2.result.now;
      restat = not c.is_empty.result;
    } in
    let same =
    built_statement rule c.required.result.now (c.bytes.ensures.text ∙ ap (λ (r : RuleValue). r.object) c.rule.view_is)
    (ap lent_files c.deref-in-loop-index.ensures.value ∙ c.in_ok-lend_files.ensures.files ∙
    ap module_files (c.deref.ensures.value ∙ ap (λ (r : RuleValue). r.provided) c.rule.view_is))
    (ap lent_files c.deref-in-loop-index-2.ensures.value ∙ c.in_ok-lend_files-2.ensures.files)
    (ap not (c.is_empty.ensures ∙ ap (λ n. n == 0) c.rule.inside.provided.ok.0 ∙ ap (λ (r : RuleValue). length r.provided == 0) c.rule.view_is)) in
    let next =
    one_more t index here (c.required.ensures rule here) same refl in
    record {
      text = subst (λ xs. IsTextOf xs c.add.new.text) next (c.in_ok-add.ensures.added so_far c.loop-index.invariant.text);
      spelled = subst (All HasSpelled) next (All-push HasSpelled so_far s c.loop-index.invariant.spelled
          (all_spelled s.implicit_outputs s.implicit_inputs
          (record { canonical = c.bytes.ensures.canonical ∙ ap Ok (sym c.bytes.ensures.text); writable = c.bytes.ensures.writable })
          (subst lent (sym c.deref-in-loop-index.ensures.value) c.in_ok-lend_files.ensures.spelled)
          (subst lent (sym c.deref-in-loop-index-2.ensures.value) c.in_ok-lend_files-2.ensures.spelled)));
    }

pub returns-in_err-add-clause-refused : goal.returns-in_err-add-clause-refused
returns-in_err-add-clause-refused c =
    let p = err_from_is_err_and c.from_residual-in_err-add.result c.from_residual-in_err-add.ensures.1 in
    let t = c.args.table.now in
    let index = c.loop-index.index in
    let rule = c.rule-item.result in
    let here : slice_get t.objects index ≡ Some rule =
    rw (← c.objects-rule-items.ensures.objects) (slice_get_read _ _ _ _ refl c.loop-index-test.true c.rule-item.is) in
    let s : StatementValue = record {
      output = c.bytes.result.now;
      implicit_outputs = lent_files c.deref-in-loop-index.result.now;
      implicit_inputs = lent_files c.deref-in-loop-index-2.result.now;
      restat = not c.is_empty.result;
    } in
    let same =
    built_statement rule c.required.result.now (c.bytes.ensures.text ∙ ap (λ (r : RuleValue). r.object) c.rule.view_is)
    (ap lent_files c.deref-in-loop-index.ensures.value ∙ c.in_ok-lend_files.ensures.files ∙
    ap module_files (c.deref.ensures.value ∙ ap (λ (r : RuleValue). r.provided) c.rule.view_is))
    (ap lent_files c.deref-in-loop-index-2.ensures.value ∙ c.in_ok-lend_files-2.ensures.files)
    (ap not (c.is_empty.ensures ∙ ap (λ n. n == 0) c.rule.inside.provided.ok.0 ∙ ap (λ (r : RuleValue). length r.provided == 0) c.rule.view_is)) in
    rw (p.1, p.2, ← with_rest t index here (c.required.ensures rule here) same)
    (line_refused c.the_first_fault_counts.ensures (map statement_of (take index (tasks_of t))) s (map statement_of (drop (index + 1) (tasks_of t)))
    _ c.loop-index.invariant.text.unfaulted c.loop-index.invariant.text.count c.in_err-add.ensures.refused)

pub add-requires : goal.add-requires
add-requires c =
    let lent = λ (fs : List (Bor (List ℕ))). All IsSpelled (lent_files fs) in
    all_spelled (lent_files c.deref-in-loop-index.result.now) (lent_files c.deref-in-loop-index-2.result.now)
    (record { canonical = c.bytes.ensures.canonical ∙ ap Ok (sym c.bytes.ensures.text); writable = c.bytes.ensures.writable })
    (subst lent (sym c.deref-in-loop-index.ensures.value) c.in_ok-lend_files.ensures.spelled)
    (subst lent (sym c.deref-in-loop-index-2.ensures.value) c.in_ok-lend_files-2.ensures.spelled)

-- at the loop's end the statements so far are those of all objects
at_end : (c : goal.After-drop-outputs-2) → map statement_of (take c.loop-index.index (tasks_of c.args.table.now)) ≡ statements_of c.args.table.now
at_end c =
    all_statements c.args.table.now
    (subst (λ (objects : List RuleValue). length objects ≤ c.loop-index.index) c.objects-rule-items.ensures.objects c.loop-index-test.false)

finished : (c : goal.After-drop-outputs-2) → IsFinished (statements_of c.args.table.now) c.finish.result.items
finished c = c.finish.ensures (statements_of c.args.table.now) (subst (λ xs. IsTextOf xs c.loop-index.text) (at_end c) c.loop-index.invariant.text)

pub returns-clause-text : goal.returns-clause-text
returns-clause-text c = (finished c).text

pub returns-clause-meaning : goal.returns-clause-meaning
returns-clause-meaning c = (finished c).meaning

pub returns-clause-spelled : goal.returns-clause-spelled
returns-clause-spelled c = subst (All HasSpelled) (at_end c) c.loop-index.invariant.spelled
