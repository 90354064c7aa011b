use Rattle.std.proofs.Common.{rules, ◌≡◌, ◌++◌, OnOk, subst, sym, ap, ◌∙◌, arith}
use Rattle.std.proofs.lemmas.List.{append-nil}
use Rattle.std.proofs.lemmas.Grind.{common_steps}
use Rattle.ninja_text.specs.Tokens.{unit_value}
use Rattle.ninja_text.proofs.Units.{plain_value}
use Rattle.ninja_text.proofs.lexing.append_meaning.Goals as goal
use Rattle.ninja_text.proofs.lexing.append_meaning.Goals.{in-Continuation, in-Escape2}

pub returns-then-not-contains-clause-ok : goal.returns-then-not-contains-clause-ok
returns-then-not-contains-clause-ok c =
    subst (λ value. OnOk c.extend_from_slice.result (c.extend_from_slice.new.self.items ≡ c.args.out.now.items ++ value))
    (sym (plain_value c.args.raw.now (sym c.contains.ensures.value ∙ c.if-not-contains.true))) (search rules)

pub loop-index-preserved : goal.loop-index-preserved
loop-index-preserved c =
    let added : c.match-unit.out.items ≡ c.loop-index.out.items ++ unit_value c.unit_at-unit.result = elim c.match-unit.branch [
      | in-Continuation w ↦ ap (λ v. v.items) w.out-is ∙ sym (append-nil c.loop-index.out.items) ∙
          ap (λ u. c.loop-index.out.items ++ unit_value u) (sym w.in-Continuation.is)
      | in-Escape2 w ↦ grind (arith, common_steps)
    ] in
    grind (arith, common_steps)
