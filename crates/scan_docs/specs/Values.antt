-- What accepted documents mean, as functions of their bytes. What the functions return for rejected
-- documents has no meaning.
use Rattle.std.specs.Prelude.{List, [], map, Bool, false, Option, None, unwrap_or, Result}
use Rattle.std.specs.Result.{result_ok}
use Rattle.ninja_text.specs.Bytes.{Bytes, PathText, Name}
use Rattle.serde_json.specs.Data.{Data, null}
use Rattle.serde_json.specs.Read.{read}
use Rattle.ninja_text.specs.Paths.{path_of, placed}
use Rattle.ninja_text.specs.declared.fault.PathFault.{PathFault}
use Rattle.scan_docs.specs.declared.member.Member.TheVariants as m
use Rattle.scan_docs.specs.Shape.{text, text_of, texts_of, entries_of}
use Rattle.scan_docs.specs.Scan.{SettingValue, object_of, module_file_of}
use Rattle.document_values.specs.Rule.{RuleValue}
use Rattle.scan_docs.specs.Info.{has_visibility, privacy}
use Rattle.document_values.specs.Info.{ModuleValue, InfoValue}
use Rattle.scan_docs.specs.Target.{TargetDocumentValue, build_dir, map_form, restat}
use Rattle.scan_docs.specs.Project.{ProjectValue}

-- the tree of the bytes, or `null` if they do not parse
abbrev pub tree_of : Bytes → Data
tree_of bytes = unwrap_or (read bytes) null

-- the path, or the empty one if it is not valid
abbrev pub accepted_path : Result PathText PathFault → PathText
accepted_path path = unwrap_or (result_ok path) []

-- ---- scan documents

-- an entry of `provides`: the name and the BMI of a provided module
abbrev pub provided_in : SettingValue → Option PathText → Data → Name × PathText
provided_in s work d = (text_of m.LogicalName d, accepted_path (module_file_of s work d))

-- a rule: its object file, and the modules that it provides and requires
abbrev pub rule_in : SettingValue → Data → RuleValue
rule_in s d = record {
  object = accepted_path (object_of s d);
  provided = map (provided_in s (text m.WorkDirectory d)) (entries_of m.Provides d);
  required = map (text_of m.LogicalName) (entries_of m.Requires d);
}

-- the rules, in order
abbrev pub rules_in : SettingValue → Data → List RuleValue
rules_in s d = map (rule_in s) (entries_of m.Rules d)

-- the rules of a scan document
unfoldable pub rules_of : SettingValue → Bytes → List RuleValue
rules_of s bytes = rules_in s (tree_of bytes)

-- ---- info documents

-- an entry of `requires`: the name and the BMI of a required module
abbrev pub requirement_in : Data → Name × PathText
requirement_in d = (text_of m.Name d, accepted_path (path_of (text_of m.Bmi d)))

-- an entry of `modules`: a module, the modules that it requires, and whether it is private
abbrev pub module_in : Bool → Data → ModuleValue
module_in with_visibility d = record {
  name = text_of m.Name d;
  file = accepted_path (path_of (text_of m.Bmi d));
  required = map requirement_in (entries_of m.Requires d);
  is_private = unwrap_or (privacy with_visibility d) false;
}

-- what the tree of an info document means
abbrev pub info_in : Data → InfoValue
info_in d = record {
  target = text_of m.Target d;
  modules = map (module_in (has_visibility d)) (entries_of m.Modules d);
}

-- what an info document means
unfoldable pub info_of : Bytes → InfoValue
info_of bytes = info_in (tree_of bytes)

-- ---- target documents

-- the directory and extension of the target's BMIs, and the directory that Ninja runs in
abbrev pub target_setting : Data → SettingValue
target_setting d = record {
  module_dir = text_of m.ModuleDir d;
  module_ext = text_of m.ModuleExt d;
  build_dir = build_dir d;
}

-- what the tree of a target document means
abbrev pub target_in : Data → TargetDocumentValue
target_in d = record {
  target = text_of m.Target d;
  setting = target_setting d;
  scans = texts_of m.Scans d;
  linked = texts_of m.Linked d;
  kept = texts_of m.Private d;
  dyndep = text_of m.Dyndep d;
  dyndep_path = accepted_path (placed None (build_dir d) (text_of m.Dyndep d));
  info = text_of m.Info d;
  map_form = map_form d;
  edges = text m.Edges d;
  restat = restat d;
}

-- what a target document means
unfoldable pub spec_of : Bytes → TargetDocumentValue
spec_of bytes = target_in (tree_of bytes)

-- ---- project documents

-- what the tree of a project document means
abbrev pub project_in : Data → ProjectValue
project_in d = record { targets = texts_of m.Targets d }

-- what a project document means
unfoldable pub project_of : Bytes → ProjectValue
project_of bytes = project_in (tree_of bytes)
