-- The checks of an info document, in order.
use Rattle.std.specs.Prelude.{ℕ, List, [], ◌∷◌, ◌++◌, Bool, is_some}
use Rattle.ninja_text.specs.Bytes.{Text}
use Rattle.ninja_text.specs.Paths.{path_of}
use Rattle.serde_json.specs.Data.{Data}
use Rattle.scan_docs.specs.declared.fault.DocFault.TheVariants.{BadName}
use Rattle.scan_docs.specs.declared.fault.Place.{Place}
use Rattle.scan_docs.specs.declared.fault.Place.TheVariants as place
use Rattle.scan_docs.specs.declared.member.Member.TheVariants as m
use Rattle.scan_docs.specs.Check.{Check, ◌otherwise◌, shape_check, path_checks, version_checks, each_from}
use Rattle.scan_docs.specs.Shape.{is_object, text, text_of, entries, entries_of}
use Rattle.document_values.specs.Name.{is_name}
use Rattle.scan_docs.specs.TargetChecks.{name_checks}
use Rattle.scan_docs.specs.Info.{has_visibility, privacy}

-- `modules` is an array
abbrev pub modules_check : Data → List Check
modules_check d = shape_check place.Document m.Modules (is_some (entries m.Modules d)) ∷ []

-- a module or a requirement is an object with the strings `bmi` and `name`
unfoldable pub entry_shape_checks : Place → Data → List Check
entry_shape_checks place d =
    shape_check place m.Entry (is_object d)
    ∷ shape_check place m.Bmi (is_some (text m.Bmi d))
    ∷ shape_check place m.Name (is_some (text m.Name d))
    ∷ []

-- a module's `requires` is an array
abbrev pub requires_check : Place → Data → List Check
requires_check place d = shape_check place m.Requires (is_some (entries m.Requires d)) ∷ []

-- in version 2, `visibility` is `public` or `private`
unfoldable pub visibility_check : Bool → Place → Data → List Check
visibility_check with_visibility place d =
    shape_check place m.Visibility (is_some (privacy with_visibility d)) ∷ []

-- a valid module name and a valid path
unfoldable pub named_file_checks : Place → Text → Text → List Check
named_file_checks place name path =
    (is_name name otherwise BadName place)
    ∷ path_checks place (path_of path)

-- an entry of a module's `requires`
unfoldable pub requirement_checks : Place → Data → List Check
requirement_checks place d =
    entry_shape_checks place d
    ++ named_file_checks place (text_of m.Name d) (text_of m.Bmi d)

-- the entries of a module's `requires`, in order
unfoldable pub all_requirement_checks : ℕ → List Data → List Check
all_requirement_checks index ds =
    each_from (λ entry d. requirement_checks (place.ModuleRequires index entry) d) 0 ds

-- all checks of a module
unfoldable pub module_checks : Bool → ℕ → Data → List Check
module_checks with_visibility index d =
    entry_shape_checks (place.Module index) d
    ++ (requires_check (place.Module index) d
    ++ (visibility_check with_visibility (place.Module index) d
    ++ (named_file_checks (place.Module index) (text_of m.Name d) (text_of m.Bmi d)
    ++ all_requirement_checks index (entries_of m.Requires d))))

-- the modules, in order
unfoldable pub all_module_checks : Bool → List Data → List Check
all_module_checks with_visibility ds = each_from (module_checks with_visibility) 0 ds

-- all checks of an info document's tree
unfoldable pub info_checks : Data → List Check
info_checks d =
    version_checks (1 ∷ 2 ∷ []) d
    ++ (name_checks d
    ++ (modules_check d
    ++ all_module_checks (has_visibility d) (entries_of m.Modules d)))
