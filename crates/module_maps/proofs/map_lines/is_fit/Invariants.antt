use Rattle.std.proofs.Common.{◌≡◌, take}
use Rattle.module_maps.specs.Prelude.{list_all, is_map_byte}
use Rattle.module_maps.proofs.map_lines.is_fit.Given as goal

abbrev pub invariant-loop-b : goal.invariant-loop-b
invariant-loop-b l = l.fits ≡ list_all is_map_byte (take l.b-index l.path)
