-- How a rejected target is reported, by what was read of it.
use Rattle.std.specs.Prelude.{List, map, codes}
use Rattle.dyndep_file.specs.FaultTexts.{write_fault_text}
use Rattle.dyndep_file.specs.declared.fault.WriteFault.TheVariants as write
use Rattle.document_values.specs.Rule.{RuleValue}
use Rattle.collate_core.specs.declared.fault.Refusal.{Refusal}
use Rattle.collate_core.specs.declared.fault.Refusal.TheVariants.{Scan, Info, Table, StatementTooLong, Map, LinkedLater}
use Rattle.collate_core.specs.declared.fault.RefusedTarget.{RefusedTarget}
use Rattle.ninja_text.specs.Bytes.{Text, Name}
use Rattle.commands.specs.Locations.{refusal_location}
use Rattle.commands.specs.Outcomes.{ErrorValue, located}
use Rattle.commands.specs.RefusalTexts.{document_text, map_text}
use Rattle.commands.specs.TableFaults.{fault_text}

-- what is reported if a target with these objects, which links targets of these names, is rejected
abbrev pub refusal_line : List RuleValue → List Name → Refusal → Text
refusal_line objects names (Scan index fault) = document_text (codes "scan") index fault
refusal_line objects names (Info index fault) = document_text (codes "info") index fault
refusal_line objects names (Table fault) = fault_text objects names fault
refusal_line objects names (StatementTooLong statement) =
    write_fault_text (write.StatementTooLong statement)
refusal_line objects names (Map object fault) = map_text objects object fault
refusal_line objects names LinkedLater = codes "K3 LinkedLater"

-- the error of a rejected target, whose info files are named by the names in them
abbrev pub refused_line : RefusedTarget → Text
refused_line refused = refusal_line refused.objects.items
    (map (λ info. info.target) refused.infos.items) refused.refusal

abbrev pub refused_error : RefusedTarget → ErrorValue
refused_error refused = located (refused_line refused) (refusal_location refused.refusal)
