use Rattle.std.proofs.Common.{rules, [], refl}
use Rattle.commands.specs.Outcomes.{goes_on}
use Rattle.commands.proofs.Listings.{whole_listing}
use Rattle.commands.proofs.edges.order.Goals as goal

pub returns : goal.returns
returns c = goes_on c.of.result [] [] refl (refl, whole_listing _ c.of.result (search rules) c.of.ensures.graph c.of.ensures.fault) c.order_of_read.ensures
