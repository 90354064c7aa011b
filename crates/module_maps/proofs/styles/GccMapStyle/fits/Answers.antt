use Rattle.std.proofs.Common.{rules}
use Rattle.module_maps.proofs.styles.GccMapStyle.fits.Goals as goal

-- stated here, so that a body which does something else is rejected soon
pub returns : goal.returns
returns c = search rules
