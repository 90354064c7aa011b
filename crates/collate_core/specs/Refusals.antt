-- The error that `collate` reports: the first, in the order of its checks.
use Rattle.std.specs.Prelude.{◌≡◌, ◌⊎◌, ℕ, ◌+◌, ◌<◌, List, length, take, slice_get, Option, Some, None, Err, All}
use Rattle.ninja_text.specs.Bytes.{Text}
use Rattle.dyndep_file.specs.WriteFaults.{write_fault}
use Rattle.dyndep_file.specs.declared.fault.WriteFault.TheVariants as write
use Rattle.scan_docs.specs.Document.{IsRefused}
use Rattle.scan_docs.specs.Scan.{SettingValue}
use Rattle.document_values.specs.Rule.{RuleValue}
use Rattle.scan_docs.specs.ScanChecks.{scan_checks}
use Rattle.scan_docs.specs.InfoChecks.{info_checks}
use Rattle.scan_docs.specs.declared.fault.DocFault.{DocFault}
use Rattle.scan_docs.specs.declared.fault.DocFault.TheVariants.{TooLarge}
use Rattle.scan_docs.specs.declared.fault.Place.TheVariants.{Document}
use Rattle.module_table.specs.TableValue.{TableValue, table_with}
use Rattle.module_table.specs.Beginnings.{IsBeginningOf}
use Rattle.module_table.specs.Faults.{IsReported, code_number}
use Rattle.module_maps.specs.Values.{ModuleMapValue}
use Rattle.module_maps.specs.Maps.{Written, map_fault}
use Rattle.module_maps.specs.declared.fault.UnwritableMap.{UnwritableMap}
use Rattle.collate_core.specs.Values.{TargetValue}
use Rattle.collate_core.specs.Documents.{IsScanAccepted, IsInfoAccepted, AreScansAccepted, AreAccepted, IsResolved, all_rules, rule_limit, table_of}
use Rattle.collate_core.specs.Statements.{statements_of}
use Rattle.collate_core.specs.Maps.{IsMapOf}
use Rattle.collate_core.specs.Collation.{IsMapText}
use Rattle.collate_core.specs.declared.fault.Refusal.{Refusal}
use Rattle.collate_core.specs.declared.fault.RefusedTarget.{RefusedTarget}
use Rattle.collate_core.specs.declared.fault.Refusal.TheVariants.{Scan, Info, Table, StatementTooLong, Map, LinkedLater}

-- the scan document is rejected by itself, or takes the number of rules past the limit
abbrev pub IsScanFault : SettingValue → List Text → ℕ → Text → DocFault → Type 0
IsScanFault s scans i scan fault =
    IsRefused (scan_checks s) scan fault
    ⊎ (IsScanAccepted s scan × (rule_limit < length (all_rules s (take (i + 1) scans)))
    × (fault ≡ TooLarge Document))

-- The scan document at this index is the first that is rejected, and this is its error.
pub record IsScanRefusal (s : SettingValue) (scans : List Text) (i : ℕ)
    (fault : DocFault) : Type 0 where
  pub before : AreScansAccepted s (take i scans)
  pub scan : Text
  pub here : slice_get scans i ≡ Some scan
  pub faulty : IsScanFault s scans i scan fault

-- The info document at this index is the first that is rejected, and this is its error.
pub record IsInfoRefusal (infos : List Text) (i : ℕ) (fault : DocFault) : Type 0 where
  pub before : All IsInfoAccepted (take i infos)
  pub info : Text
  pub here : slice_get infos i ≡ Some info
  pub faulty : IsRefused info_checks info fault

-- the object's map cannot be written, for this reason
abbrev pub IsMapFault : TableValue → Written → ℕ → RuleValue → UnwritableMap → Type 0
IsMapFault t written o rule fault =
    (m : ModuleMapValue) × IsMapOf t o rule m × (written m ≡ Err (map_fault fault))

-- the object's map can be written
abbrev pub IsMapWritten : TableValue → Written → ℕ → RuleValue → Type 0
IsMapWritten t written o rule = (text : Text) × IsMapText t written o rule text

-- The map of the object at this index is the first that cannot be written, and this is its error.
pub record IsMapRefusal (t : TableValue) (written : Written) (o : ℕ)
    (fault : UnwritableMap) : Type 0 where
  pub before : (p : ℕ) (earlier : RuleValue) →
      p < o → slice_get t.objects p ≡ Some earlier → IsMapWritten t written p earlier
  pub rule : RuleValue
  pub here : slice_get t.objects o ≡ Some rule
  pub faulty : IsMapFault t written o rule fault

-- no build line of the target's statements is too long
abbrev pub AllFit : TargetValue → Type 0
AllFit target = write_fault (statements_of (table_of target)) ≡ None

-- statement k is the first with a build line that is too long
abbrev pub IsFirstTooLong : TargetValue → ℕ → Type 0
IsFirstTooLong target k =
    write_fault (statements_of (table_of target)) ≡ Some (write.StatementTooLong k)

-- The rejection that is reported. Each kind of error is reported only if none above it is present.
abbrev pub IsRefusal : TargetValue → Option Written → Refusal → Type 0
-- the first scan document that is rejected
IsRefusal target style (Scan i fault) = IsScanRefusal target.setting target.scans i fault
-- the first info document that is rejected
IsRefusal target style (Info i fault) =
    AreScansAccepted target.setting target.scans × IsInfoRefusal target.infos i fault
-- the table's error
IsRefusal target style (Table fault) =
    AreAccepted target × IsReported (table_of target) target.kept fault
-- the first statement whose build line is too long
IsRefusal target style (StatementTooLong k) = IsResolved target × IsFirstTooLong target k
-- with a style, the first object whose map cannot be written
IsRefusal target None (Map o fault) = ⊥
IsRefusal target (Some written) (Map o fault) =
    IsResolved target × AllFit target × IsMapRefusal (table_of target) written o fault
-- only a target of a project can link a later one
IsRefusal target style LinkedLater = ⊥

-- what was read of a rejected target: if the error is one of the table or of a map, it is the
-- target's table, of which M1 and M2 may leave out what follows a repetition
abbrev pub WasRead : TargetValue → Refusal → TableValue → Type 0
WasRead target (Table fault) read =
    IsBeginningOf read (table_of target) × (2 < code_number fault → read ≡ table_of target)
WasRead target (Map o fault) read = read ≡ table_of target
WasRead target other read = Unit {0}

-- a rejected target has what was read of it
abbrev pub HasReadOf : TargetValue → RefusedTarget → Type 0
HasReadOf target refused =
    WasRead target refused.refusal (table_with refused.objects.items refused.infos.items)
