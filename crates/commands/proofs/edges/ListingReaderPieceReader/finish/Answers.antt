use Rattle.std.proofs.Common.{rules}
use Rattle.commands.proofs.Listings.{listing_read}
use Rattle.commands.proofs.edges.ListingReaderPieceReader.finish.Goals as goal

pub returns-clause-read : goal.returns-clause-read
returns-clause-read c = listing_read _ c.finish.result (search rules) c.finish.ensures.failed c.finish.ensures.all

pub returns-clause-failed : goal.returns-clause-failed
returns-clause-failed c = c.finish.ensures.failed
