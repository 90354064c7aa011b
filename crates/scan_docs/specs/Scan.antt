-- What a scan document means. It has the members of the P1689R5 schema.
use Rattle.std.specs.Prelude.{◌≡◌, ℕ, List, [], ◌∷◌, ◌++◌, length, map, Bool, false, ◌||◌, ◌==◌, if◌then◌else◌, Option, Some, None, unwrap_or, Result, Ok, IsUtf8, codes, bytes_eq}
use Rattle.std.specs.List.{AllZip, All}
use Rattle.ninja_text.specs.Bytes.{Text, PathText, Name, hyphen, slash, colon}
use Rattle.ninja_text.specs.Paths.{placed}
use Rattle.ninja_text.specs.declared.fault.PathFault.{PathFault}
use Rattle.serde_json.specs.Data.{Data}
use Rattle.scan_docs.specs.declared.member.Member.TheVariants as m
use Rattle.scan_docs.specs.Shape.{text, text_of, flag, entries_of}
use Rattle.document_values.specs.Name.{IsName}
use Rattle.document_values.specs.Rule.{RuleValue}

-- the directory and extension of a target's BMIs, and the directory that Ninja runs in
pub record SettingValue : Type 0 where
  pub module_dir : PathText
  pub module_ext : Text
  pub build_dir : Option PathText

-- ---- what the members mean

-- the path of a rule's object file, or why it is not valid
abbrev pub object_of : SettingValue → Data → Result PathText PathFault
object_of s rule = placed (text m.WorkDirectory rule) s.build_dir (text_of m.PrimaryOutput rule)

-- replaces `:` with `-`
abbrev pub dashed : ℕ → ℕ
dashed b = if b == colon then hyphen else b

-- the directory and `/` (unless it is empty), the name with `-` for `:`, and the extension
abbrev pub joined_file : PathText → Name → Text → PathText
joined_file dir name ext =
    (if length dir == 0 then [] else dir ++ slash ∷ []) ++ map dashed name ++ ext

-- the BMI of a module for which the document gives no path
abbrev pub made_file : SettingValue → Name → PathText
made_file s name = joined_file s.module_dir name s.module_ext

-- the BMI of a module, from the path that the document gives, or from the name if it gives none
abbrev pub file_from : SettingValue → Option PathText → Name → Option Text
    → Result PathText PathFault
file_from s work name (Some path) = placed work s.build_dir path
file_from s work name None = placed None s.build_dir (made_file s name)

-- the path of a provided module's BMI, or why it is not valid
abbrev pub module_file_of : SettingValue → Option PathText → Data → Result PathText PathFault
module_file_of s work entry =
    file_from s work (text_of m.LogicalName entry) (text m.CompiledModulePath entry)

-- the lookup method is one for headers
abbrev pub names_header : Option Text → Bool
names_header None = false
names_header (Some method) =
    bytes_eq method (codes "include-angle") || bytes_eq method (codes "include-quote")

-- the lookup method is one of the three that exist
abbrev pub is_method : Option Text → Bool
is_method None = false
is_method (Some method) = bytes_eq method (codes "by-name") || names_header (Some method)

-- the entry sets `unique-on-source-path`, as header units do
abbrev pub is_unique_on_source : Data → Bool
is_unique_on_source entry = unwrap_or (flag m.UniqueOnSourcePath entry) false

-- ---- the meaning

-- the path is UTF-8, so JSON can hold it
pub record IsText (path : PathText) : Type 0 where
  pub utf8 : IsUtf8 path

-- an entry of `provides`: the name and the BMI of a provided module
pub record IsProvidedModule (s : SettingValue) (work : Option PathText) (entry : Data)
    (provided : Name × PathText) : Type 0 where
  pub name : text m.LogicalName entry ≡ Some provided.0
  pub is_name : IsName provided.0
  pub file : module_file_of s work entry ≡ Ok provided.1
  pub is_text : IsText provided.1

-- an entry of `requires`: the name of a required module
pub record IsRequired (entry : Data) (required : Name) : Type 0 where
  pub name : text m.LogicalName entry ≡ Some required
  pub is_name : IsName required

-- a rule: its object file, and the modules that it provides and requires
pub record IsRule (s : SettingValue) (d : Data) (rule : RuleValue) : Type 0 where
  pub object : object_of s d ≡ Ok rule.object
  pub is_text : IsText rule.object
  pub provided :
      AllZip (IsProvidedModule s (text m.WorkDirectory d)) (entries_of m.Provides d) rule.provided
  pub required : AllZip IsRequired (entries_of m.Requires d) rule.required

-- what a scan document means, if it passes its checks
abbrev pub AreRules : SettingValue → Data → List RuleValue → Type 0
AreRules s d rules = AllZip (IsRule s) (entries_of m.Rules d) rules

-- all names of the rule are valid, and all its paths are UTF-8
pub record IsRuleText (rule : RuleValue) : Type 0 where
  pub object : IsText rule.object
  pub names : All (λ pair. IsName pair.0) rule.provided
  pub provided : All (λ pair. IsText pair.1) rule.provided
  pub required : All IsName rule.required
