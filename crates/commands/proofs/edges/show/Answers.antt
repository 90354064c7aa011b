use Rattle.std.proofs.Common.{[], refl}
use Rattle.commands.specs.Outcomes.{goes_on}
use Rattle.commands.proofs.Listings.{whole_dyndep}
use Rattle.commands.proofs.edges.show.Goals as goal

pub returns : goal.returns
returns c = goes_on c.of.result [] [] refl (refl, whole_dyndep _ c.of.result c.of.ensures.statements c.of.ensures.fault) c.show_of_read.ensures
