-- What a call returns that may run out of memory.
use Rattle.std.specs.Prelude.{◌≡◌, Option, Some, Result, Ok, Err, ⊤, codes}
use Rattle.ninja_text.specs.Bytes.{Text}
use Rattle.ninja_text.specs.declared.failure.Failure.{Failure}
use Rattle.ninja_text.specs.declared.failure.Failure.TheVariants.{Memory, Fault}

-- The result is the value (through `view`) or the error in `meaning`, unless an allocation failed.
abbrev pub Gives : {T V F : Type 0} → (T → V) → Result T (Failure F) → Result V F → Type 0
Gives view (Ok value) meaning = meaning ≡ Ok (view value)
Gives view (Err Memory) meaning = ⊤
Gives view (Err (Fault fault)) meaning = meaning ≡ Err fault

-- `Memory` stays `Memory`. Any other failure is mapped by a closure, whose contract is `turned`.
abbrev pub Turns : {F G : Type 0} → (F → G → Type 0) → Failure F → Failure G → Type 0
Turns {F} {G} turned Memory new = new ≡ Memory
Turns {F} {G} turned (Fault fault) new = (other : G) × turned fault other × (new ≡ Fault other)

-- P holds of the error, unless an allocation failed
abbrev pub ForFault : {F : Type 0} → (F → Type 0) → Failure F → Type 0
ForFault P Memory = ⊤
ForFault P (Fault fault) = P fault

-- how a failure is printed, if it is known how its error is printed
abbrev pub failure_text : {F : Type 0} → (F → Option Text) → Failure F → Option Text
failure_text text Memory = Some (codes "out of memory")
failure_text text (Fault fault) = text fault
