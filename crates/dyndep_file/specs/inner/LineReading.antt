-- What reading one line returns, for each row of the table of lines.
use Rattle.std.specs.Prelude.{◌≡◌, ℕ, nat_lt, IsTrue, if◌then◌else◌, List, length, map, codes, Option, None, Some, Result, Ok, Err, bytes_eq}
use Rattle.ninja_text.specs.Lines.{LogicalLine}
use Rattle.ninja_text.specs.Tokens.{value_of}
use Rattle.ninja_text.specs.Assignments.{SeenAssignment}
use Rattle.ninja_text.specs.declared.failure.Failure.{Failure}
use Rattle.ninja_text.specs.declared.failure.Failure.TheVariants.{Memory, Fault}
use Rattle.ninja_text.specs.Symbols.{Symbol}
use Rattle.dyndep_file.specs.Classes.{DyndepClass, Version, Build, Binding, IsDyndepLine, is_version_one}
use Rattle.dyndep_file.specs.Steps.{ProgressValue, step}
use Rattle.dyndep_file.specs.Faults.{text_line_fault}
use Rattle.dyndep_file.specs.inner.BuildLines.{Names}
use Rattle.dyndep_file.specs.declared.fault.LineFault.{LineFault}
use Rattle.dyndep_file.specs.declared.fault.ReadFault.{ReadFault}
use Rattle.dyndep_file.specs.declared.fault.ReadFault.TheVariants.{AtLine, Io}

-- The line has a class that may come here and leads to the new statements, or it has this error, or
-- an allocation failed.
abbrev pub PassesOr : Option LineFault → (DyndepClass → Type 0) → ProgressValue
    → Result Unit (Failure LineFault) → ProgressValue → Type 0
PassesOr fault is old (Ok u) new =
    (c : DyndepClass) × is c × (step old.stage old.statements c ≡ Some new)
PassesOr fault is old (Err (Fault found)) new = fault ≡ Some found
PassesOr fault is old (Err Memory) new = Unit {0}

-- The tokens after the keyword `build` are a build line of this class.
abbrev pub IsBuildOf : List Symbol → DyndepClass → Type 0
IsBuildOf symbols c =
    (output : List ℕ) × (outputs inputs : List (List ℕ)) × Names symbols output outputs inputs
    × (c ≡ Build (value_of output) (map value_of outputs) (map value_of inputs))

-- the assignment, if it is to this name
abbrev pub with_name : List ℕ → Option SeenAssignment → Option SeenAssignment
with_name name None = None
with_name name (Some a) = if bytes_eq a.name name then Some a else None

-- The assignment sets `restat`, and the flag of the class is on if the value is not empty.
abbrev pub IsBindingOf : Option SeenAssignment → DyndepClass → Type 0
IsBindingOf found c =
    (a : SeenAssignment) × (found ≡ Some a) × (a.name ≡ codes "restat")
    × (c ≡ Binding (nat_lt 0 (length (value_of a.raw_value))))

-- The class is a version line, and the value is an accepted version.
abbrev pub IsVersionOf : List ℕ → DyndepClass → Type 0
IsVersionOf value c = (c ≡ Version) × IsTrue (is_version_one value)

-- The assignment begins at the first byte and sets the version to an accepted one.
abbrev pub IsVersionLineOf : Option SeenAssignment → DyndepClass → Type 0
IsVersionLineOf found c =
    (a : SeenAssignment) × (found ≡ Some a) × (a.name_start ≡ 0)
    × (a.name ≡ codes "ninja_dyndep_version") × IsVersionOf (value_of a.raw_value) c

-- What reading a line returns, and what it does to the statements so far.
abbrev pub ReadsLine : ProgressValue → LogicalLine → Result Unit (Failure ReadFault)
    → ProgressValue → Type 0
ReadsLine old line (Ok u) new =
    (c : DyndepClass) × IsDyndepLine line.text line.comment c
    × (step old.stage old.statements c ≡ Some new)
ReadsLine old line (Err (Fault (AtLine number fault))) new =
    (number ≡ line.number) × (text_line_fault old.stage line.text line.comment ≡ Some fault)
ReadsLine old line (Err (Fault Io)) new = ⊥
ReadsLine old line (Err Memory) new = Unit {0}
