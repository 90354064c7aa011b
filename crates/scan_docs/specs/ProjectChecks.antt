-- The checks of a project document, in order.
use Rattle.std.specs.Prelude.{List, [], ◌∷◌, ◌++◌, is_some}
use Rattle.serde_json.specs.Data.{Data}
use Rattle.scan_docs.specs.declared.fault.Place.TheVariants as place
use Rattle.scan_docs.specs.declared.member.Member.TheVariants as m
use Rattle.scan_docs.specs.Check.{Check, shape_check, version_checks}
use Rattle.scan_docs.specs.Shape.{texts}

-- `targets` is an array of strings
abbrev pub targets_check : Data → List Check
targets_check d = shape_check place.Document m.Targets (is_some (texts m.Targets d)) ∷ []

-- all checks of a project document's tree
abbrev pub project_checks : Data → List Check
project_checks d = version_checks (1 ∷ []) d ++ targets_check d
