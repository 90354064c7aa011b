-- What the check for one code reports.
use Rattle.std.specs.Prelude.{◌≡◌, ℕ, List, Box, Result, IfErr}
use Rattle.std.specs.declared.alloc.Global.{Global}
use Rattle.ninja_text.specs.Failure.{ForFault}
use Rattle.ninja_text.specs.declared.failure.Failure.{Failure}
use Rattle.module_table.specs.TableValue.{TableValue}
use Rattle.module_table.specs.Faults.{IsFault, code_number}
use Rattle.module_table.specs.declared.fault.TableFault.{TableFault}

-- the error is present in the table and has this code
pub record Reports (code : ℕ) (t : TableValue) (kept : List (List ℕ)) (fault : TableFault)
    : Type 0 where
  pub present : IsFault t kept fault
  pub coded : code_number fault ≡ code

-- If a check fails, it is with such an error, whatever names are to be private.
abbrev pub FailsWith : {A : Type 0} → ℕ → TableValue → Result A (Failure (Box TableFault Global))
    → Type 0
FailsWith code t result =
    IfErr result (ForFault (λ fault. (kept : List (List ℕ)) → Reports code t kept fault.value))
