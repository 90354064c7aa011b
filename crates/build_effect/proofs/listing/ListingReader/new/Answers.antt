use Rattle.std.proofs.Common.{rules}
use Rattle.build_effect.specs.Prelude.{listing_end}
use Rattle.build_effect.proofs.listing.ListingReader.new.Goals as goal

pub returns : goal.returns
returns c = search (rules, listing_end)
