-- What the steps of collating guarantee each other: definitions for private contracts.
use Rattle.std.specs.Prelude.{◌≡◌, ℕ, List, length, map, slice_get, Option, Some, Ok, All}
use Rattle.std.specs.Borrow.{Bor}
use Rattle.ninja_text.specs.Paths.{IsPath}
use Rattle.ninja_text.specs.Escapes.{IsWritable}
use Rattle.ninja_text.specs.declared.failure.Failure.{Failure}
use Rattle.ninja_text.specs.declared.failure.Failure.TheVariants.{Fault}
use Rattle.dyndep_file.specs.StatementValue.{StatementValue}
use Rattle.dyndep_file.specs.WriteFaults.{write_fault, statement_fault, text_or_fault, paths_of}
use Rattle.dyndep_file.specs.Reading.{StandsForOnly}
use Rattle.dyndep_file.specs.declared.fault.WriteFault.TheVariants as write
use Rattle.scan_docs.specs.Scan.{IsRuleText}
use Rattle.document_values.specs.Rule.{RuleValue}
use Rattle.scan_docs.specs.InfoText.{IsInfoText, info_text, ReadsBack}
use Rattle.scan_docs.specs.declared.fault.DocFault.{DocFault}
use Rattle.scan_docs.specs.declared.fault.DocFault.TheVariants.{TooLarge}
use Rattle.scan_docs.specs.declared.fault.Place.TheVariants.{Document}
use Rattle.module_table.specs.TableValue.{TableValue}
use Rattle.module_table.specs.declared.fault.RefusedTable.{RefusedTable}
use Rattle.module_maps.specs.Maps.{Written}
use Rattle.build_effect.specs.declared.fault.EffectFault.{EffectFault}
use Rattle.collate_core.specs.Values.{TargetValue, CollatedValue, ProjectTargetValue}
use Rattle.collate_core.specs.Documents.{table_of, IsResolved}
use Rattle.collate_core.specs.Statements.{statements_of}
use Rattle.collate_core.specs.Infos.{info_of_table}
use Rattle.collate_core.specs.Collation.{AreMaps, Collates}
use Rattle.collate_core.specs.Refusals.{IsMapFault, IsMapRefusal, IsRefusal}
use Rattle.collate_core.specs.Projects.{target_of, LinksEarlier}
use Rattle.collate_core.specs.declared.fault.Refusal.{Refusal}
use Rattle.collate_core.specs.declared.fault.RefusedTarget.{RefusedTarget}
use Rattle.collate_core.specs.declared.fault.Refusal.TheVariants.{Scan, Info, Table, StatementTooLong, Map}
use Rattle.collate_core.specs.declared.fault.RehearseFault.{RehearseFault}
use Rattle.collate_core.specs.declared.fault.RehearseFault.TheVariants.{Effect}

-- All paths of the rules and info files are UTF-8, and all names of the rules are valid.
pub record IsTableText (t : TableValue) : Type 0 where
  pub objects : All IsRuleText t.objects
  pub infos : All IsInfoText t.infos

-- the borrowed files
abbrev pub lent_files : List (Bor (List ℕ)) → List (List ℕ)
lent_files files = map (λ file. file.now) files

-- the path is canonical and can be written
pub record IsSpelled (path : List ℕ) : Type 0 where
  pub canonical : IsPath path
  pub writable : IsWritable path

-- all paths of the statement are canonical and can be written
abbrev pub HasSpelled : StatementValue → Type 0
HasSpelled s = All IsSpelled (paths_of s)

-- the rejection is of a scan document, and P holds of its index and error
abbrev pub ForScan : (ℕ → DocFault → Type 0) → Refusal → Type 0
ForScan P (Scan index fault) = P index fault
ForScan P other = ⊥

-- the rejection is of an info document, and P holds of its index and error
abbrev pub ForInfo : (ℕ → DocFault → Type 0) → Refusal → Type 0
ForInfo P (Info index fault) = P index fault
ForInfo P other = ⊥

-- the scan document at this index takes the number of rules past the limit
abbrev pub IsTooLarge : ℕ → Failure Refusal → Type 0
IsTooLarge index failure = failure ≡ Fault (Scan index (TooLarge Document))

-- the error is one of the effect, and P holds of it
abbrev pub ForEffect : (EffectFault → Type 0) → RehearseFault → Type 0
ForEffect P (Effect fault) = P fault
ForEffect P other = ⊥

-- the rejection is of the first statement whose build line is too long
abbrev pub IsWriteRefusal : List StatementValue → Refusal → Type 0
IsWriteRefusal statements (StatementTooLong k) =
    write_fault statements ≡ Some (write.StatementTooLong k)
IsWriteRefusal statements refusal = ⊥

-- the rejection is of the statement at this index, whose build line is too long
abbrev pub IsLineRefusal : ℕ → StatementValue → Refusal → Type 0
IsLineRefusal index s (StatementTooLong k) =
    statement_fault index s ≡ Some (write.StatementTooLong k)
IsLineRefusal index s refusal = ⊥

-- the rejection is of the first map that cannot be written
abbrev pub IsMapsRefusal : TableValue → Option Written → Refusal → Type 0
IsMapsRefusal t (Some written) (Map o fault) = IsMapRefusal t written o fault
IsMapsRefusal t style refusal = ⊥

-- the rejection is of the map of object o, which cannot be written
abbrev pub IsObjectRefusal : TableValue → Written → ℕ → Refusal → Type 0
IsObjectRefusal t written o (Map k fault) = (k ≡ o)
    × ((rule : RuleValue) → slice_get t.objects o ≡ Some rule → IsMapFault t written o rule fault)
IsObjectRefusal t written o refusal = ⊥

-- the rejection is the error of the table, and its objects and info files are returned
abbrev pub IsOfTable : RefusedTable → RefusedTarget → Type 0
IsOfTable given refused = (refused.refusal ≡ Table given.fault)
    × (refused.objects ≡ given.objects) × (refused.infos ≡ given.infos)

-- each target that has this table, and whose documents and modules have no error, has this
-- rejection
abbrev pub IsTextsRefusal : TableValue → Option Written → Refusal → Type 0
IsTextsRefusal t style refusal = (target : TargetValue) → t ≡ table_of target → IsResolved target
    → IsRefusal target style refusal

-- What is written of a table, for a target with this name and these private names.
pub record IsWrittenOf (target : TargetValue) (style : Option Written) (t : TableValue)
    (c : CollatedValue) : Type 0 where
  pub spelled : All HasSpelled (statements_of t)
  pub stands : StandsForOnly c.dyndep (statements_of t)
  pub text : text_or_fault (statements_of t) ≡ Ok c.dyndep
  pub objects : c.objects ≡ map (λ rule. rule.object) t.objects
  pub info : c.info ≡ info_text (info_of_table target.name target.kept t)
  pub reads : ReadsBack (info_of_table target.name target.kept t) c.info
  pub maps : AreMaps t style c.maps

-- the target links only targets that collated to `outs`, and collates to c
abbrev pub CollatesLinked : Option Written → List CollatedValue → ProjectTargetValue →
    CollatedValue → Type 0
CollatesLinked style outs p c =
    LinksEarlier (length outs) p × Collates (target_of outs p) style c
