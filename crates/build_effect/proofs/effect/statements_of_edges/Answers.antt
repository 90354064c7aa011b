use Rattle.std.proofs.Common.{true, false, ◌∙◌, ◌<◌, length, get_or, None, refl, ap, sym, arith}
use Rattle.std.proofs.lemmas.Option.{slice_get_read, slice_get-get_or}
use Rattle.std.proofs.lemmas.List.{get_or_read}
use Rattle.build_effect.specs.Prelude.{StatementTwice}
use Rattle.build_effect.proofs.StatementChecks.{more_inverse, still_differ, repeated_on, is_there}
use Rattle.build_effect.proofs.effect.statements_of_edges.Goals as goal

pub returns-then-is_some-clause-fault : goal.returns-then-is_some-clause-fault
returns-then-is_some-clause-fault c =
    let edge_of = c.args.edge_of.now in
    let i = c.loop-statement_index.statement_index in
    let edge = get_or edge_of i 0 in
    let statement_of = c.loop-statement_index.statement_of.items in
    let at = slice_get-get_or edge_of i 0 c.loop-statement_index-test.true in
    let low = c.requires.edges i 0 c.loop-statement_index-test.true in
    let short : edge < length statement_of = omega arith in
    let read = get_or_read statement_of edge c.index.result.now short c.index.ensures None in
    let some = is_there c.index.result.now true (sym c.is_some.ensures ∙ c.if-is_some.true) in
    let within : i < length c.args.additions.now = omega arith in
    let a = c.index-additions-statement_index.result in (
      some.0,
      i,
      a,
      repeated_on edge_of i at c.loop-statement_index.invariant.inverse c.loop-statement_index.invariant.differ
          (sym read ∙ some.1),
      slice_get_read c.args.additions.now _ i a refl within c.index-additions-statement_index.is,
      ap StatementTwice (c.in_ok-output.ensures ∙ c.output.ensures),
    )

pub loop-statement_index-preserved : goal.loop-statement_index-preserved
loop-statement_index-preserved c =
    let edge_of = c.args.edge_of.now in
    let i = c.loop-statement_index.statement_index in
    let edge = get_or edge_of i 0 in
    let statement_of = c.loop-statement_index.statement_of.items in
    let at = slice_get-get_or edge_of i 0 c.loop-statement_index-test.true in
    let low = c.requires.edges i 0 c.loop-statement_index-test.true in
    let short : edge < length statement_of = omega arith in
    let read = get_or_read statement_of edge c.index.result.now short c.index.ensures None in
    let free = sym read ∙ is_there c.index.result.now false (sym c.is_some.ensures ∙ c.if-is_some.false) in
    record {
      inverse = more_inverse c.args.count edge_of i edge statement_of at c.loop-statement_index.invariant.inverse low free;
      differ = still_differ c.args.count edge_of i edge statement_of at c.loop-statement_index.invariant.inverse free c.loop-statement_index.invariant.differ;
    }
