use Rattle.build_effect.proofs.ListingLaws.{one_list, not_both}
use Rattle.build_effect.proofs.laws.a_text_lists_one_list_of_edges.Goals as goal

pub returns-clause-one : goal.returns-clause-one
returns-clause-one c = one_list

pub returns-clause-faultless : goal.returns-clause-faultless
returns-clause-faultless c = not_both
