-- What the steps of reading a line of an edge list return, given the symbols before and after.
use Rattle.std.specs.Prelude.{◌≡◌, Some, None, Result, Ok, Err}
use Rattle.ninja_text.specs.declared.failure.Failure.{Failure}
use Rattle.ninja_text.specs.declared.failure.Failure.TheVariants.{Memory, Fault}
use Rattle.build_effect.specs.ListingLines.{EdgeTexts, Row, ListingClass}
use Rattle.build_effect.specs.inner.ListingWalk.{class_of_row, step, row_cause}
use Rattle.ninja_text.specs.declared.fault.PathFault.{PathFault}
use Rattle.build_effect.specs.ListingGrammar.{bound}
use Rattle.build_effect.specs.ListingSteps.{ListingValue}
use Rattle.build_effect.specs.EdgeValue.{EdgeValue}
use Rattle.build_effect.specs.declared.fault.LineCause.{LineCause}

-- What a line of this row does: the row has a class and leads to the new edges, or the line is
-- rejected with this cause, or an allocation failed.
abbrev pub TakesRow : ListingValue → Result Row LineCause → Result Unit (Failure LineCause)
    → ListingValue → Type 0
TakesRow old found (Ok u) new =
    (c : ListingClass) × ((row : Row) × (found ≡ Ok row) × (class_of_row row ≡ Ok c))
    × (step old.binding old.edges c ≡ Some new)
TakesRow old found (Err (Fault cause)) new = row_cause old.binding found ≡ Some cause
TakesRow old found (Err Memory) new = Unit {0}

-- the edge with these paths, without bindings, or the error of a string, or that an allocation
-- failed
abbrev pub GivesEdge : Result EdgeValue (Failure PathFault) → Result EdgeTexts PathFault → Type 0
GivesEdge (Ok edge) paths = (t : EdgeTexts) × (paths ≡ Ok t) × (edge ≡ bound t None None)
GivesEdge (Err (Fault fault)) paths = paths ≡ Err fault
GivesEdge (Err Memory) paths = Unit {0}
