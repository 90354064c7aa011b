use Rattle.build_effect.proofs.ListingLaws.{listing_or_fault}
use Rattle.build_effect.proofs.laws.a_text_lists_edges_or_has_a_fault.Goals as goal

pub returns : goal.returns
returns c = listing_or_fault
