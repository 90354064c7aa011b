-- What the command `one` prints.
use Rattle.std.specs.Prelude.{[], ◌∷◌, None, codes}
use Rattle.ninja_text.specs.Bytes.{Text, PathText}
use Rattle.scan_docs.specs.Scan.{SettingValue}
use Rattle.collate_core.specs.Values.{TargetValue}
use Rattle.commands.specs.Outcomes.{Part, OutputValue, Prints, ◌>>=◌}
use Rattle.commands.specs.Targets.{TargetOf}

-- the setting of `one`: a directory for compiled modules, the ending of their file names, and no
-- build directory
abbrev pub one_setting : PathText → Text → SettingValue
one_setting dir ext = record { module_dir = dir; module_ext = ext; build_dir = None }

-- The target of `one`: a scan document alone, which links no other target and has no
-- private modules. What is printed does not have its name.
abbrev pub one_target : SettingValue → Text → TargetValue
one_target setting scan = record {
  name = codes "t";
  setting = setting;
  scans = scan ∷ [];
  infos = [];
  kept = [];
}

-- What a run prints for a target: the text of its dyndep file.
abbrev pub PrintsDyndep : TargetValue → Part OutputValue
PrintsDyndep target = do
  collated ← TargetOf target None
  Prints collated.dyndep

-- What a run prints for these bytes of a scan document.
abbrev pub OneRun : Text → PathText → Text → Part OutputValue
OneRun scan dir ext = PrintsDyndep (one_target (one_setting dir ext) scan)
