use Rattle.build_effect.proofs.WrittenListings.{written_listing}
use Rattle.build_effect.proofs.laws.a_written_text_lists_its_edges.Goals as goal

pub returns : goal.returns
returns c = written_listing
