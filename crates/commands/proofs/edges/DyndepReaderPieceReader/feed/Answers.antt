use Rattle.std.proofs.Common.{◌++◌}
use Rattle.commands.proofs.Listings.{dyndep_piece}
use Rattle.commands.proofs.edges.DyndepReaderPieceReader.feed.Goals as goal

pub returns : goal.returns
returns c = λ bytes read. dyndep_piece (bytes ++ c.args.piece.now) c.feed.result c.is_ok.result _ c.is_ok.ensures.value (c.feed.ensures.all bytes read)
