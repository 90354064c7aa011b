use Rattle.std.proofs.Common.{[]}
use Rattle.std.proofs.lemmas.Result.{err_from_is_err_and}
use Rattle.build_effect.proofs.ListingLaws.{stopped, whole_read}
use Rattle.build_effect.proofs.graph.Graph.of.Goals as goal

pub returns-in_err-feed-clause-fault : goal.returns-in_err-feed-clause-fault
returns-in_err-feed-clause-fault c =
    let p = err_from_is_err_and c.from_residual.result c.from_residual.ensures.1 in
    rw (p.1, p.2) (stopped c.args.text.now c.in_err-feed.field-0.0 c.feed.new.self (c.in_err-feed.ensures.all [] c.new-reader.ensures))

pub returns-clause-graph : goal.returns-clause-graph
returns-clause-graph c =
    (whole_read c.args.text.now c.finish.result (c.finish.ensures.all c.args.text.now (c.in_ok-feed.ensures.all [] c.new-reader.ensures))).0

pub returns-clause-fault : goal.returns-clause-fault
returns-clause-fault c =
    (whole_read c.args.text.now c.finish.result (c.finish.ensures.all c.args.text.now (c.in_ok-feed.ensures.all [] c.new-reader.ensures))).1
