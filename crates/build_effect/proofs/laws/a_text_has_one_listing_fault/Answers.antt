use Rattle.build_effect.proofs.ListingLaws.{one_fault}
use Rattle.build_effect.proofs.laws.a_text_has_one_listing_fault.Goals as goal

pub returns : goal.returns
returns c = one_fault
