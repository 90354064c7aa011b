-- The checks of a target document, in order.
use Rattle.std.specs.Prelude.{List, [], ◌∷◌, ◌++◌, length, ◌||◌, nat_lt, None, is_some, is_none}
use Rattle.std.specs.List.{list_all}
use Rattle.ninja_text.specs.Paths.{placed}
use Rattle.serde_json.specs.Data.{Data}
use Rattle.scan_docs.specs.declared.fault.DocFault.TheVariants.{BadName}
use Rattle.scan_docs.specs.declared.fault.Place.TheVariants as place
use Rattle.scan_docs.specs.declared.member.Member.TheVariants as m
use Rattle.scan_docs.specs.Check.{Check, ◌otherwise◌, shape_check, path_checks, version_checks}
use Rattle.scan_docs.specs.Shape.{given, text, text_of, texts, texts_of, fits}
use Rattle.document_values.specs.Name.{is_name, is_target_name}
use Rattle.scan_docs.specs.Target.{build_dir, map_form}

-- the target's name is valid; info documents have the same check
unfoldable pub name_checks : Data → List Check
name_checks d =
    shape_check place.Document m.Target (is_some (text m.Target d))
    ∷ (is_target_name (text_of m.Target d) otherwise BadName place.Document)
    ∷ []

-- `module-dir` and `module-ext` are strings; `build-dir` is absent or an absolute path
unfoldable pub directory_checks : Data → List Check
directory_checks d =
    shape_check place.Document m.ModuleDir (is_some (text m.ModuleDir d))
    ∷ shape_check place.Document m.ModuleExt (is_some (text m.ModuleExt d))
    ∷ shape_check place.Document m.BuildDir (is_none (given m.BuildDir d) || is_some (build_dir d))
    ∷ []

-- `scans` and `linked` are absent or arrays of strings
abbrev pub list_checks : Data → List Check
list_checks d =
    shape_check place.Document m.Scans (fits texts m.Scans d)
    ∷ shape_check place.Document m.Linked (fits texts m.Linked d)
    ∷ []

-- `private` is absent or an array of module names
unfoldable pub kept_checks : Data → List Check
kept_checks d =
    shape_check place.Document m.Private (fits texts m.Private d)
    ∷ (list_all is_name (texts_of m.Private d) otherwise BadName place.Document)
    ∷ []

-- `dyndep` is a valid path as Ninja sees it
unfoldable pub dyndep_checks : Data → List Check
dyndep_checks d =
    shape_check place.Document m.Dyndep (is_some (text m.Dyndep d))
    ∷ path_checks place.Document (placed None (build_dir d) (text_of m.Dyndep d))

-- `info` is a string that is not empty
abbrev pub info_check : Data → Check
info_check d = shape_check place.Document m.Info (nat_lt 0 (length (text_of m.Info d)))

-- `map` is absent or the name of a format
abbrev pub map_check : Data → Check
map_check d =
    shape_check place.Document m.Map (is_none (given m.Map d) || is_some (map_form d))

-- the files `info` and `edges`, and the format of the module maps
unfoldable pub file_checks : Data → List Check
file_checks d =
    info_check d
    ∷ map_check d
    ∷ shape_check place.Document m.Edges (fits text m.Edges d)
    ∷ []

-- all checks of a target document's tree
unfoldable pub target_checks : Data → List Check
target_checks d =
    version_checks (1 ∷ []) d
    ++ (name_checks d
    ++ (directory_checks d
    ++ (list_checks d
    ++ (kept_checks d
    ++ (dyndep_checks d
    ++ file_checks d)))))
