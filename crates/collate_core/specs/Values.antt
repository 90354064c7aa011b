-- What contracts see of targets, and of what they collate to.
use Rattle.std.specs.Prelude.{List, map}
use Rattle.ninja_text.specs.Bytes.{Text, PathText, Name}
use Rattle.dep_order.specs.Numbers.{Numbers}
use Rattle.scan_docs.specs.Scan.{SettingValue}
use Rattle.collate_core.specs.declared.collating.CollatedParts.{CollatedParts}

-- a target: its name, its directories and extension, its scan documents, the info files of the
-- targets that it links, and the names of its private modules
pub record TargetValue : Type 0 where
  pub name : Name
  pub setting : SettingValue
  pub scans : List Text
  pub infos : List Text
  pub kept : List Name

-- what a target collates to: the dyndep file, the info file, the objects, and with a style a map
-- for each object
pub record CollatedValue : Type 0 where
  pub dyndep : Text
  pub info : Text
  pub objects : List PathText
  pub maps : List Text

-- the value that has these parts
abbrev pub collated_of : CollatedParts → CollatedValue
collated_of parts = record {
  dyndep = parts.dyndep.items;
  info = parts.info.items;
  objects = parts.objects.items;
  maps = map (λ m. m.items) parts.maps.items;
}

-- a target of a project, which links earlier ones by index
pub record ProjectTargetValue : Type 0 where
  pub name : Name
  pub setting : SettingValue
  pub scans : List Text
  pub linked : Numbers
  pub kept : List Name
