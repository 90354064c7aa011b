-- What the documents of a target mean: one table of rules and info files.
use Rattle.std.specs.Prelude.{ℕ, ◌≤◌, List, length, map, All}
use Rattle.std.specs.List.{flat_map}
use Rattle.ninja_text.specs.Bytes.{Text}
use Rattle.scan_docs.specs.Document.{IsAccepted}
use Rattle.scan_docs.specs.Scan.{SettingValue, AreRules}
use Rattle.document_values.specs.Rule.{RuleValue}
use Rattle.scan_docs.specs.ScanChecks.{scan_checks}
use Rattle.scan_docs.specs.Info.{IsInfo}
use Rattle.scan_docs.specs.InfoChecks.{info_checks}
use Rattle.module_table.specs.TableValue.{TableValue}
use Rattle.module_table.specs.Faults.{IsFault}
use Rattle.module_table.specs.Sound.{IsSound, PrivateAreProvided}
use Rattle.module_table.specs.declared.fault.TableFault.{TableFault}
use Rattle.scan_docs.specs.Values.{rules_of, info_of}
use Rattle.collate_core.specs.Values.{TargetValue}

-- the maximum number of rules of a target
abbrev pub rule_limit : ℕ
rule_limit = 65536

-- the rules of all scan documents, in order
abbrev pub all_rules : SettingValue → List Text → List RuleValue
all_rules s scans = flat_map (rules_of s) scans

-- the table of the target's documents: its objects are the rules of all scan documents
abbrev pub table_of : TargetValue → TableValue
table_of target = record {
  objects = all_rules target.setting target.scans;
  infos = map info_of target.infos;
}

-- the scan document passes its checks, and means the rules that `rules_of` returns
abbrev pub IsScanAccepted : SettingValue → Text → Type 0
IsScanAccepted s scan = IsAccepted (scan_checks s) (AreRules s) scan (rules_of s scan)

-- the info document passes its checks, and means what `info_of` returns
abbrev pub IsInfoAccepted : Text → Type 0
IsInfoAccepted info = IsAccepted info_checks IsInfo info (info_of info)

-- The scan documents pass their checks, and together have at most `rule_limit` rules.
pub record AreScansAccepted (s : SettingValue) (scans : List Text) : Type 0 where
  pub each : All (IsScanAccepted s) scans
  pub limit : length (all_rules s scans) ≤ rule_limit

-- All documents of the target are accepted.
pub record AreAccepted (target : TargetValue) : Type 0 where
  pub scans : AreScansAccepted target.setting target.scans
  pub infos : All IsInfoAccepted target.infos

-- The documents of the target are accepted, and their table has no error.
pub record IsResolved (target : TargetValue) : Type 0 where
  pub documents : AreAccepted target
  pub no_fault : (fault : TableFault) → IsFault (table_of target) target.kept fault → ⊥
  -- so the table is sound, and its objects provide all names that are to be private
  pub sound : IsSound (table_of target)
  pub kept : PrivateAreProvided (table_of target) target.kept
