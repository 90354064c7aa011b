-- How the rejection of a target is reported.
use Rattle.std.specs.Prelude.{ℕ, List, ◌++◌, map, codes}
use Rattle.std.specs.Fmt.{decimal}
use Rattle.ninja_text.specs.Bytes.{Text, Name}
use Rattle.dyndep_file.specs.FaultTexts.{write_fault_text}
use Rattle.dyndep_file.specs.declared.fault.WriteFault.TheVariants as write
use Rattle.scan_docs.specs.FaultTexts.{doc_fault_text}
use Rattle.scan_docs.specs.Scan.{SettingValue}
use Rattle.document_values.specs.Rule.{RuleValue}
use Rattle.scan_docs.specs.Values.{info_of}
use Rattle.scan_docs.specs.declared.fault.DocFault.{DocFault}
use Rattle.module_maps.specs.declared.fault.UnwritableMap.{UnwritableMap}
use Rattle.module_maps.specs.declared.fault.UnwritableMap.TheVariants.{MapPath, TwoProvided}
use Rattle.collate_core.specs.Values.{TargetValue}
use Rattle.collate_core.specs.Documents.{all_rules}
use Rattle.collate_core.specs.declared.fault.Refusal.{Refusal}
use Rattle.collate_core.specs.declared.fault.Refusal.TheVariants.{Scan, Info, Table, StatementTooLong, Map, LinkedLater}
use Rattle.commands.specs.Locations.{refusal_location}
use Rattle.commands.specs.Outcomes.{ErrorValue, located}
use Rattle.commands.specs.TableFaults.{object_path, fault_text}

-- a faulty document, by its kind and its index
abbrev pub document_text : Text → ℕ → DocFault → Text
document_text kind index fault =
    kind ++ codes " " ++ decimal index ++ codes ": " ++ doc_fault_text fault

-- why an object has no map: the path that a map can't have, or the object that provides two modules
abbrev pub map_text : List RuleValue → ℕ → UnwritableMap → Text
map_text objects object (MapPath path) = codes "K1 MapPath " ++ path
map_text objects object TwoProvided = codes "K2 TwoProvided " ++ object_path objects object

-- Why a target with this setting and these scan documents, which links targets of these names, is
-- rejected. Objects are named by the paths in the scan documents, and info files by those names.
abbrev pub refusal_by_names : SettingValue → List Text → List Name → Refusal → Text
refusal_by_names setting scans names (Scan index fault) = document_text (codes "scan") index fault
refusal_by_names setting scans names (Info index fault) = document_text (codes "info") index fault
refusal_by_names setting scans names (Table fault) =
    fault_text (all_rules setting scans) names fault
refusal_by_names setting scans names (StatementTooLong statement) =
    write_fault_text (write.StatementTooLong statement)
refusal_by_names setting scans names (Map object fault) =
    map_text (all_rules setting scans) object fault
refusal_by_names setting scans names LinkedLater = codes "K3 LinkedLater"

abbrev pub error_by_names : SettingValue → List Text → List Name → Refusal → ErrorValue
error_by_names setting scans names refusal =
    located (refusal_by_names setting scans names refusal) (refusal_location refusal)

-- Why a target is rejected. Info files are named by the names in them.
abbrev pub refusal_error : TargetValue → Refusal → ErrorValue
refusal_error target refusal = error_by_names target.setting target.scans
    (map (λ info. (info_of info).target) target.infos) refusal
