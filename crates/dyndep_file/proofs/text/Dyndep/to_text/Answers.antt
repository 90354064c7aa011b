use Rattle.std.proofs.Common.{Some, ◌≡◌, ◌≤◌, length, ℕ, ◌+◌, List, [], ◌∷◌, ◌++◌, take, drop, ap, subst, sym, ◌∙◌}
use Rattle.std.proofs.lemmas.List.{take_more, take_all, take-append-drop, drop_more}
use Rattle.std.proofs.lemmas.Result.{err_from_is_err_and}
use Rattle.dyndep_file.specs.Prelude.{ForFault, StatementValue, TextValue, IsTextOf, IsFinished, statement_fault, lent_texts}
use Rattle.dyndep_file.proofs.WriteLemmas.{refused_behind}
use Rattle.dyndep_file.proofs.text.Dyndep.to_text.Goals as goal
use Rattle.dyndep_file.proofs.text.Dyndep.to_text.Goals.{After-add}

-- the statement, as its paths were borrowed, is the next one
lent : (c : After-add) → ◌≡◌ {A = StatementValue} (record {
  output = c.deref-in-loop-statement-2.result.now;
  implicit_outputs = lent_texts c.deref-in-loop-statement-3.result.now;
  implicit_inputs = lent_texts c.deref-in-loop-statement-4.result.now;
  restat = c.statement.inside.restat;
}) c.statement-item.result
lent c =
    rw (
      c.deref-in-loop-statement-2.ensures.value,
      c.deref-in-loop-statement-3.ensures.value,
      c.deref-in-loop-statement-4.ensures.value,
      c.in_ok-lend.ensures,
      c.in_ok-lend-2.ensures,
      c.deref.ensures.value,
      c.deref-in-loop-statement.ensures.value,
    ) c.statement.view_is

pub loop-statement-preserved : goal.loop-statement-preserved
loop-statement-preserved c =
    let all : List StatementValue = c.deref-statement-items.result.now in
    let i : ℕ = c.loop-statement.statement-index in
    let s : StatementValue = c.statement-item.result in
    let next : take i all ++ s ∷ [] ≡ take (i + 1) all = ap (λ x. take i all ++ x ∷ []) c.statement-item.is ∙
    sym (take_more all i s c.loop-statement-test.true) in
    subst (λ xs. IsTextOf xs c.add.new.self) next
    (subst (λ (t : StatementValue). IsTextOf (take i all ++ t ∷ []) c.add.new.self) (lent (goal.at.loop-statement-preserved c).After-add)
    (c.in_ok-add.ensures.added (take i all) c.loop-statement.invariant))

pub returns-in_err-add-clause-text : goal.returns-in_err-add-clause-text
returns-in_err-add-clause-text c =
    let p = err_from_is_err_and c.from_residual-in_err-add.result c.from_residual-in_err-add.ensures.1 in
    let all : List StatementValue = c.deref-statement-items.result.now in
    let i : ℕ = c.loop-statement.statement-index in
    let s : StatementValue = c.statement-item.result in
    let parts : take i all ++ s ∷ drop (i + 1) all ≡ c.args.self.now =
    ap (λ x. take i all ++ x ∷ drop (i + 1) all) c.statement-item.is ∙ ap (λ xs. take i all ++ xs) (sym (drop_more all i s c.loop-statement-test.true)) ∙
    take-append-drop i all
    ∙ c.deref-statement-items.ensures.value ∙ c.self.view_is in
    rw (p.1, p.2, ← parts)
    (refused_behind (take i all) s (drop (i + 1) all) c.loop-statement.text.count _ c.loop-statement.invariant.unfaulted c.loop-statement.invariant.count
    (subst (λ (t : StatementValue). ForFault (λ fault. statement_fault c.loop-statement.text.count t ≡ Some fault) c.in_err-add.field-0.0)
    (lent (goal.at.returns-in_err-add-clause-text c).After-add) c.in_err-add.ensures.fault))

-- what the text is once all statements were added
ended : (all statements : List StatementValue) (i : ℕ) (text : TextValue) (bytes : List ℕ) → all ≡ statements → length all ≤ i → IsTextOf (take i all) text
    → ((added : List StatementValue) → IsTextOf added text → IsFinished added bytes) → IsFinished statements bytes
ended all statements i text bytes same past so_far finish = subst (λ xs. IsFinished xs bytes) (take_all i all past ∙ same) (finish (take i all) so_far)

pub returns : goal.returns
returns c =
    let all = ended _ _ _ _ _ (c.deref-statement-items.ensures.value ∙ c.self.view_is) c.loop-statement-test.false c.loop-statement.invariant c.finish.ensures
    in
    record { text = all.text; unfaulted = all.unfaulted; meaning = all.meaning }
