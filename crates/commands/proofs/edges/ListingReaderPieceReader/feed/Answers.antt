use Rattle.std.proofs.Common.{◌++◌}
use Rattle.commands.proofs.Listings.{listing_piece}
use Rattle.commands.proofs.edges.ListingReaderPieceReader.feed.Goals as goal

pub returns : goal.returns
returns c = λ bytes read. listing_piece (bytes ++ c.args.lines.now) c.feed.result c.is_ok.result _ c.is_ok.ensures.value (c.feed.ensures.all bytes read)
