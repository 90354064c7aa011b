-- The checks of a scan document, in order.
use Rattle.std.specs.Prelude.{ℕ, List, [], ◌∷◌, ◌++◌, length, Bool, not, ◌&&◌, ◌||◌, nat_le, Option, is_some, is_none}
use Rattle.ninja_text.specs.Bytes.{PathText}
use Rattle.serde_json.specs.Data.{Data}
use Rattle.scan_docs.specs.declared.fault.DocFault.TheVariants.{NoPrimaryOutput, HeaderUnit, BadName, TooLarge}
use Rattle.scan_docs.specs.declared.fault.Place.{Place}
use Rattle.scan_docs.specs.declared.fault.Place.TheVariants as place
use Rattle.scan_docs.specs.declared.member.Member.TheVariants as m
use Rattle.scan_docs.specs.Check.{Check, ◌otherwise◌, shape_check, path_checks, version_checks, each_from}
use Rattle.scan_docs.specs.Shape.{is_object, given, text, text_of, flag, entries, entries_of, fits}
use Rattle.document_values.specs.Name.{is_name}
use Rattle.scan_docs.specs.Scan.{SettingValue, object_of, module_file_of, is_unique_on_source, names_header, is_method}

-- the maximum number of rules of a document, and of entries in a list of a rule
abbrev pub count_limit : ℕ
count_limit = 65536

-- the list is not longer than `count_limit`
abbrev pub is_short : List Data → Bool
is_short ds = nat_le (length ds) count_limit

-- The document is an object with the version 1, or 0, which some scanners write. `rules` is an
-- array that is not too long.
abbrev pub head_checks : Data → List Check
head_checks d =
    version_checks (0 ∷ 1 ∷ []) d
    ++ (shape_check place.Document m.Rules (is_some (entries m.Rules d))
    ∷ (is_short (entries_of m.Rules d) otherwise TooLarge place.Document)
    ∷ [])

-- a rule is an object, and its members have the right shapes
abbrev pub rule_shape_checks : Place → Data → List Check
rule_shape_checks place d =
    shape_check place m.Rule (is_object d)
    ∷ shape_check place m.PrimaryOutput (fits text m.PrimaryOutput d)
    ∷ shape_check place m.WorkDirectory (fits text m.WorkDirectory d)
    ∷ shape_check place m.Provides (fits entries m.Provides d)
    ∷ shape_check place m.Requires (fits entries m.Requires d)
    ∷ []

-- a rule has a primary output, which is a valid path
abbrev pub object_checks : SettingValue → Place → Data → List Check
object_checks s place d =
    (is_some (text m.PrimaryOutput d) otherwise NoPrimaryOutput place)
    ∷ path_checks place (object_of s d)

-- a rule's lists are not too long
unfoldable pub count_checks : Place → List Data → List Data → List Check
count_checks place provided required =
    (is_short provided && is_short required otherwise TooLarge place) ∷ []

-- an entry of `provides`
unfoldable pub provided_checks : SettingValue → Option PathText → Place → Data → List Check
provided_checks s work place d =
    shape_check place m.Entry (is_object d)
    ∷ shape_check place m.LogicalName (is_some (text m.LogicalName d))
    ∷ shape_check place m.CompiledModulePath (fits text m.CompiledModulePath d)
    ∷ shape_check place m.UniqueOnSourcePath (fits flag m.UniqueOnSourcePath d)
    ∷ shape_check place m.IsInterface (fits flag m.IsInterface d)
    ∷ (not (is_unique_on_source d) otherwise HeaderUnit place)
    ∷ (is_name (text_of m.LogicalName d) otherwise BadName place)
    ∷ path_checks place (module_file_of s work d)

-- the entries of `provides`, in order
unfoldable pub all_provided_checks : SettingValue → Option PathText → ℕ → List Data → List Check
all_provided_checks s work rule ds =
    each_from (λ entry d. provided_checks s work (place.Provides rule entry) d) 0 ds

-- `lookup-method` is absent, null or valid
abbrev pub lookup_check : Place → Data → Check
lookup_check place d =
    shape_check place m.LookupMethod
    (is_none (given m.LookupMethod d) || is_method (text m.LookupMethod d))

-- an entry of `requires`
unfoldable pub required_checks : Place → Data → List Check
required_checks place d =
    shape_check place m.Entry (is_object d)
    ∷ shape_check place m.LogicalName (is_some (text m.LogicalName d))
    ∷ shape_check place m.UniqueOnSourcePath (fits flag m.UniqueOnSourcePath d)
    ∷ lookup_check place d
    ∷ (not (is_unique_on_source d || names_header (text m.LookupMethod d))
    otherwise HeaderUnit place)
    ∷ (is_name (text_of m.LogicalName d) otherwise BadName place)
    ∷ []

-- the entries of `requires`, in order
unfoldable pub all_required_checks : ℕ → List Data → List Check
all_required_checks rule ds =
    each_from (λ entry d. required_checks (place.Requires rule entry) d) 0 ds

-- all checks of a rule
unfoldable pub rule_checks : SettingValue → ℕ → Data → List Check
rule_checks s rule d =
    rule_shape_checks (place.Rule rule) d
    ++ (object_checks s (place.Rule rule) d
    ++ (count_checks (place.Rule rule) (entries_of m.Provides d) (entries_of m.Requires d)
    ++ (all_provided_checks s (text m.WorkDirectory d) rule (entries_of m.Provides d)
    ++ all_required_checks rule (entries_of m.Requires d))))

-- the rules, in order
unfoldable pub all_rule_checks : SettingValue → List Data → List Check
all_rule_checks s ds = each_from (rule_checks s) 0 ds

-- all checks of a scan document's tree
unfoldable pub scan_checks : SettingValue → Data → List Check
scan_checks s d = head_checks d ++ all_rule_checks s (entries_of m.Rules d)
