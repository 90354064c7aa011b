use Rattle.std.proofs.Common.{◌∙◌, true, false, refl, ap, sym}
use Rattle.std.proofs.lemmas.Option.{slice_get_read}
use Rattle.build_effect.specs.Prelude.{not, EdgeValue, Names}
use Rattle.build_effect.proofs.StatementChecks.{more_have, is_there}
use Rattle.build_effect.proofs.effect.check_mentioned.Goals as goal
use Rattle.build_effect.proofs.effect.check_mentioned.Goals.{else-is_none-via-then-is_none+else-names, else-is_none-via-else-is_none}

-- stated here, so that `edge_without_statement_passed_over` is rejected early
pub returns-then-names-clause-fault : goal.returns-then-names-clause-fault
returns-then-names-clause-fault c =
    let i = c.loop-edge_index.edge_index in
    let e = c.index-edges-edge_index.result in
    let at = slice_get_read c.args.edges.now _ i e refl c.loop-edge_index-test.true c.index-edges-edge_index.is in (
      i,
      e,
      c.in_ok-output.output,
      record {
        here = at;
        holds = (c.if-names.ensures, is_there _ false (c.is_none.ensures ∙ ap not c.if-is_none.true));
        before = λ k d lt at_k bad.
            let some = c.loop-edge_index.invariant k d lt at_k bad.0 in
            let never = sym bad.1 ∙ some.1 in
            cc;
      },
      c.in_ok-output.ensures,
      refl,
    )

pub loop-edge_index-preserved : goal.loop-edge_index-preserved
loop-edge_index-preserved c =
    let i = c.loop-edge_index.edge_index in
    let e = c.index-edges-edge_index.result in
    more_have c.args.edges.now (λ (x : EdgeValue). Names c.args.name.now x) c.args.statement_of.now i e
    (slice_get_read c.args.edges.now _ i e refl c.loop-edge_index-test.true c.index-edges-edge_index.is) c.loop-edge_index.invariant (λ names.
    elim c.else-is_none.branch [
      | else-is_none-via-then-is_none+else-names w ↦ absurd (w.if-names.ensures names)
      | else-is_none-via-else-is_none w ↦ is_there _ true (c.is_none.ensures ∙ ap not w.if-is_none.false)
    ])
