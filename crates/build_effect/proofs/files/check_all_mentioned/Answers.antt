use Rattle.std.proofs.Common.{◌∙◌, true, refl, ap}
use Rattle.std.proofs.lemmas.Option.{slice_get_read}
use Rattle.build_effect.specs.Prelude.{not, NamesListed}
use Rattle.build_effect.proofs.StatementChecks.{more_have, is_there}
use Rattle.build_effect.proofs.files.check_all_mentioned.Goals as goal
use Rattle.build_effect.proofs.files.check_all_mentioned.Goals.{else-is_none-via-then-is_none+else-names_one, else-is_none-via-else-is_none}

pub loop-edge_index-preserved : goal.loop-edge_index-preserved
loop-edge_index-preserved c =
    let i = c.loop-edge_index.edge_index in
    let e = c.index-edges-edge_index.result in
    more_have c.args.edges.now (NamesListed c.args.names.now) c.args.statement_of.now i e
    (slice_get_read c.args.edges.now _ i e refl c.loop-edge_index-test.true c.index-edges-edge_index.is) c.loop-edge_index.invariant (λ named.
    elim c.else-is_none.branch [
      | else-is_none-via-then-is_none+else-names_one w ↦ absurd (w.if-names_one.ensures named)
      | else-is_none-via-else-is_none w ↦ is_there _ true (c.is_none.ensures ∙ ap not w.if-is_none.false)
    ])
