-- The checks of a document. They are made in order, and the first that fails gives the error.
use Rattle.std.specs.Prelude.{ℕ, List, [], ◌∷◌, Bool, false, ◌==◌, if◌then◌else◌, Option, Some, None, Result, Ok, Err}
use Rattle.std.specs.List.{flat_map, enumerate_from, list_any}
use Rattle.ninja_text.specs.Bytes.{PathText}
use Rattle.serde_json.specs.Data.{Data}
use Rattle.ninja_text.specs.declared.fault.PathFault.{PathFault}
use Rattle.scan_docs.specs.declared.fault.DocFault.{DocFault}
use Rattle.scan_docs.specs.declared.fault.DocFault.TheVariants.{BadVersion, BadShape, BadPath}
use Rattle.scan_docs.specs.declared.fault.Place.{Place}
use Rattle.scan_docs.specs.declared.fault.Place.TheVariants as place
use Rattle.scan_docs.specs.declared.member.Member.{Member}
use Rattle.scan_docs.specs.declared.member.Member.TheVariants as m
use Rattle.scan_docs.specs.Shape.{is_object, whole_number}

-- a condition, and the error if it is false
pub record Check : Type 0 where
  pub holds : Bool
  pub refusal : DocFault

infix 5 ◌otherwise◌
abbrev pub ◌otherwise◌ : Bool → DocFault → Check
holds otherwise refusal = record { holds = holds; refusal = refusal }

-- the error of the first check that fails, or None if all hold
abbrev pub first_refusal : List Check → Option DocFault
first_refusal [] = None
first_refusal (c ∷ cs) = if c.holds then first_refusal cs else Some c.refusal

-- the check that a member has the right shape
abbrev pub shape_check : Place → Member → Bool → Check
shape_check place member holds = holds otherwise BadShape place member

-- no check if the path is valid, and one that fails if it is not
abbrev pub path_checks : Place → Result PathText PathFault → List Check
path_checks place (Ok path) = []
path_checks place (Err fault) = (false otherwise BadPath place fault) ∷ []

-- the version of the format of a document
abbrev pub Version : Type 0
Version = ℕ

-- the version is one of these
abbrev pub is_one_of : List Version → Option Version → Bool
is_one_of versions None = false
is_one_of versions (Some version) = list_any (λ v. v == version) versions

-- the document is an object, and its version is one of these
unfoldable pub version_checks : List Version → Data → List Check
version_checks versions d =
    shape_check place.Document m.Document (is_object d)
    ∷ (is_one_of versions (whole_number m.Version d) otherwise BadVersion)
    ∷ []

-- the checks of each entry of a list; the entries are numbered from `index`
abbrev pub each_from : (ℕ → Data → List Check) → ℕ → List Data → List Check
each_from checks index ds = flat_map (λ e. checks e.0 e.1) (enumerate_from index ds)
