-- What a target document means.
use Rattle.std.specs.Prelude.{◌≡◌, List, Bool, false, if◌then◌else◌, Option, Some, None, option_and_then, unwrap_or, Ok, codes, bytes_eq}
use Rattle.std.specs.Result.{result_ok}
use Rattle.ninja_text.specs.Bytes.{Text, PathText, Name}
use Rattle.ninja_text.specs.Paths.{path_of, is_rooted, placed}
use Rattle.serde_json.specs.Data.{Data}
use Rattle.scan_docs.specs.declared.member.Member.TheVariants as m
use Rattle.scan_docs.specs.declared.map_form.MapForm.{MapForm}
use Rattle.scan_docs.specs.declared.map_form.MapForm.TheVariants.{Gcc, Clang}
use Rattle.scan_docs.specs.Shape.{text, flag, texts_of}
use Rattle.scan_docs.specs.Scan.{SettingValue}

-- the members of a target document as written, and the dyndep file's path as Ninja sees it
pub record TargetDocumentValue : Type 0 where
  pub target : Name
  pub setting : SettingValue
  pub scans : List PathText
  pub linked : List PathText
  pub kept : List Name
  pub dyndep : PathText
  pub dyndep_path : PathText
  pub info : PathText
  pub map_form : Option MapForm
  pub edges : Option PathText
  pub restat : Bool

-- ---- what the members mean

-- the path, if it is absolute
abbrev only_rooted : PathText → Option PathText
only_rooted path = if is_rooted path then Some path else None

-- the string as a path, if it is a valid and absolute one
abbrev pub absolute_path : Text → Option PathText
absolute_path text = option_and_then only_rooted (result_ok (path_of text))

-- the directory that Ninja runs in, if the document gives a valid absolute path
abbrev pub build_dir : Data → Option PathText
build_dir d = option_and_then absolute_path (text m.BuildDir d)

-- the format of module maps that has this name
abbrev pub map_form_of : Text → Option MapForm
map_form_of text =
    if bytes_eq text (codes "gcc") then Some Gcc
    else (if bytes_eq text (codes "clang") then Some Clang else None)

-- the format of the module maps, if the document gives one
abbrev pub map_form : Data → Option MapForm
map_form d = option_and_then map_form_of (text m.Map d)

-- whether files that would not change are left alone; only `true` counts
abbrev pub restat : Data → Bool
restat d = unwrap_or (flag m.Restat d) false

-- ---- the meaning

-- the value has the members as written, and the dyndep file's path as Ninja sees it
pub record IsTarget (d : Data) (t : TargetDocumentValue) : Type 0 where
  pub target : text m.Target d ≡ Some t.target
  pub module_dir : text m.ModuleDir d ≡ Some t.setting.module_dir
  pub module_ext : text m.ModuleExt d ≡ Some t.setting.module_ext
  pub directory : build_dir d ≡ t.setting.build_dir
  pub scans : texts_of m.Scans d ≡ t.scans
  pub linked : texts_of m.Linked d ≡ t.linked
  pub kept : texts_of m.Private d ≡ t.kept
  pub dyndep : text m.Dyndep d ≡ Some t.dyndep
  pub dyndep_path : placed None t.setting.build_dir t.dyndep ≡ Ok t.dyndep_path
  pub info : text m.Info d ≡ Some t.info
  pub form : map_form d ≡ t.map_form
  pub edges : text m.Edges d ≡ t.edges
  pub restat : restat d ≡ t.restat
