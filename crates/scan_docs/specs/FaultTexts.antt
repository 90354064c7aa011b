-- How the errors of documents are printed: a code, a name, the place, and details.
use Rattle.std.specs.Prelude.{◌++◌, codes}
use Rattle.ninja_text.specs.Bytes.{Text}
use Rattle.ninja_text.specs.FaultTexts.{path_fault_text}
use Rattle.scan_docs.specs.declared.fault.DocFault.{DocFault}
use Rattle.scan_docs.specs.declared.fault.DocFault.TheVariants.{NotJson, BadVersion, BadShape, NoPrimaryOutput, HeaderUnit, BadName, BadPath, TooLarge}
use Rattle.scan_docs.specs.Member.{key}
use Rattle.scan_docs.specs.Place.{place_text}

-- the message for a rejected document
abbrev pub doc_fault_text : DocFault → Text
doc_fault_text NotJson = codes "S1 NotJson document"
doc_fault_text BadVersion = codes "S2 BadVersion document"
doc_fault_text (BadShape place member) =
    codes "S3 BadShape " ++ place_text place ++ codes " member " ++ key member
doc_fault_text (NoPrimaryOutput place) = codes "S4 NoPrimaryOutput " ++ place_text place
doc_fault_text (HeaderUnit place) = codes "S5 HeaderUnit " ++ place_text place
doc_fault_text (BadName place) = codes "S6 BadName " ++ place_text place
doc_fault_text (BadPath place fault) =
    codes "S7 BadPath " ++ place_text place ++ codes " " ++ path_fault_text fault
doc_fault_text (TooLarge place) = codes "S8 TooLarge " ++ place_text place
