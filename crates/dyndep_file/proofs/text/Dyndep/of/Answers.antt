use Rattle.std.proofs.Common.{[]}
use Rattle.std.proofs.lemmas.Result.{err_from_is_err_and}
use Rattle.dyndep_file.proofs.ReadLemmas.{fault_so_far, read_whole}
use Rattle.dyndep_file.proofs.text.Dyndep.of.Goals as goal

pub returns-in_err-feed-clause-fault : goal.returns-in_err-feed-clause-fault
returns-in_err-feed-clause-fault c =
    let p = err_from_is_err_and c.from_residual.result c.from_residual.ensures.1 in
    rw (p.1, p.2) (fault_so_far c.args.text.now c.in_err-feed.field-0.0 (c.in_err-feed.ensures.all [] c.new-reader.ensures).1)

pub returns : goal.returns
returns c =
    let read = read_whole c.args.text.now c.finish.result (c.finish.ensures.all _ (c.in_ok-feed.ensures.all [] c.new-reader.ensures)) in
    record { statements = read.0; fault = read.1 }
