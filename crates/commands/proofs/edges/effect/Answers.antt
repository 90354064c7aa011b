use Rattle.std.proofs.Common.{rules, [], refl}
use Rattle.commands.specs.Outcomes.{goes_on}
use Rattle.commands.proofs.Listings.{whole_dyndep, whole_listing}
use Rattle.commands.proofs.edges.effect.Goals as goal

pub returns : goal.returns
returns c =
    goes_on c.of-listing.result [] [] refl (refl, whole_listing _ c.of-listing.result (search rules) c.of-listing.ensures.graph c.of-listing.ensures.fault)
    (goes_on c.of-dyndep.result [] [] refl (refl, whole_dyndep _ c.of-dyndep.result c.of-dyndep.ensures.statements c.of-dyndep.ensures.fault)
    c.effect_of_read.ensures)
