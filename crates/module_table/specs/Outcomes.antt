-- Which tables have no error, and which error is reported for the others.
use Rattle.std.specs.Prelude.{◌≡◌, ℕ, ◌<◌, ◌^◌, List, length, Vec}
use Rattle.std.specs.declared.alloc.Global.{Global}
use Rattle.ninja_text.specs.Bytes.{Name}
use Rattle.module_table.specs.TableValue.{TableValue}
use Rattle.module_table.specs.Faults.{IsFault, IsReported}
use Rattle.module_table.specs.Sound.{IsSound, PrivateAreProvided}
use Rattle.module_table.specs.declared.fault.TableFault.{TableFault}
use Rattle.module_table.specs.declared.fault.TableFault.TheVariants.{ImportCycle}

-- none of the errors M1 to M10 is present in the table, given these private names
abbrev pub HasNoFault : TableValue → List Name → Type 0
HasNoFault t private_names = (fault : TableFault) → IsFault t private_names fault → ⊥

-- a sound table whose objects provide the private names has no error
abbrev pub SoundHasNoFault : Type 0
SoundHasNoFault = (t : TableValue) (private_names : List Name) →
    IsSound t → PrivateAreProvided t private_names → HasNoFault t private_names

-- A table without an error is sound, and its objects provide the private names. The number of
-- objects is limited, because the error of a cycle lists its objects in a vector.
abbrev pub FaultlessIsSound : Type 0
FaultlessIsSound = (t : TableValue) (private_names : List Name) →
    length t.objects < 2 ^ 63 → HasNoFault t private_names →
    IsSound t × PrivateAreProvided t private_names

-- The errors are the same. For a cycle this means the same list of objects.
pub data IsSameFault : TableFault → TableFault → Type 0 where
  same : {fault : TableFault} → IsSameFault fault fault
  same_ring : {ring other : Vec ℕ Global} →
      ring.items ≡ other.items → IsSameFault (ImportCycle ring) (ImportCycle other)

-- at most one error is reported of a table
abbrev pub OneTableFault : Type 0
OneTableFault = (t : TableValue) (private_names : List Name) (fault other : TableFault) →
    IsReported t private_names fault → IsReported t private_names other → IsSameFault fault other
