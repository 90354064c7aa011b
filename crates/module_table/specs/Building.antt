-- What building a table returns.
use Rattle.std.specs.Prelude.{◌≡◌, List, Result, IfOk, IfErr}
use Rattle.ninja_text.specs.Bytes.{Name}
use Rattle.ninja_text.specs.Failure.{ForFault}
use Rattle.ninja_text.specs.declared.failure.Failure.{Failure}
use Rattle.document_values.specs.Rule.{RuleValue}
use Rattle.document_values.specs.Info.{InfoValue}
use Rattle.module_table.specs.TableValue.{TableValue, table_with}
use Rattle.module_table.specs.Faults.{IsReported}
use Rattle.module_table.specs.Sound.{IsSound, PrivateAreProvided}
use Rattle.module_table.specs.Outcomes.{HasNoFault}
use Rattle.module_table.specs.declared.fault.TableFault.{TableFault}

-- On success, the result is the table of these objects and info files. None of the errors M1 to M10
-- is present, so the table is sound and its objects provide the private names. Otherwise the result
-- is the error to report, in a value that may contain more.
pub record Builds {E : Type 0} (fault_of : E → TableFault) (objects : List RuleValue)
    (infos : List InfoValue) (private_names : List Name)
    (result : Result TableValue (Failure E)) : Type 0 where
  pub table : IfOk result (λ table. table ≡ table_with objects infos)
  pub sound : IfOk result IsSound
  pub kept : IfOk result (λ table. PrivateAreProvided table private_names)
  pub no_fault : IfOk result (λ table. HasNoFault table private_names)
  pub fault : IfErr result (ForFault (λ error.
      IsReported (table_with objects infos) private_names (fault_of error)))
