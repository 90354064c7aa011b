use Rattle.commands.proofs.Listings.{dyndep_read}
use Rattle.commands.proofs.edges.DyndepReaderPieceReader.finish.Goals as goal

pub returns-clause-read : goal.returns-clause-read
returns-clause-read c = dyndep_read _ c.finish.result c.finish.ensures.failed c.finish.ensures.all

pub returns-clause-failed : goal.returns-clause-failed
returns-clause-failed c = c.finish.ensures.failed
