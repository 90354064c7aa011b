-- What holds once checks have passed.
use Rattle.std.specs.Prelude.{◌≡◌, ℕ, ◌≤◌, List}
use Rattle.module_table.specs.TableValue.{TableValue}
use Rattle.module_table.specs.Faults.{IsFault, code_number}
use Rattle.module_table.specs.declared.fault.TableFault.{TableFault}

-- the check for this code has passed: no error with this code is present
abbrev pub Lacks : ℕ → TableValue → List (List ℕ) → Type 0
Lacks code t kept = (fault : TableFault) → code_number fault ≡ code → IsFault t kept fault → ⊥

-- the checks for all lower codes have passed: no error with a lower code is present
abbrev pub Passed : ℕ → TableValue → List (List ℕ) → Type 0
Passed code t kept = (fault : TableFault) → IsFault t kept fault → code ≤ code_number fault
