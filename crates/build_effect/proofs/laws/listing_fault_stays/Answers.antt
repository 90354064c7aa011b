use Rattle.build_effect.proofs.ListingStays.{fault_stays}
use Rattle.build_effect.proofs.laws.listing_fault_stays.Goals as goal

pub returns : goal.returns
returns c = fault_stays
