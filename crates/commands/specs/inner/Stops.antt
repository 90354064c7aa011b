-- How the reason is made why a run stops.
use Rattle.std.specs.Prelude.{◌≡◌, ⊤, ℕ, ◌++◌, Option, Some, Ok, Err, Result, Vec}
use Rattle.std.specs.Global.{Global}
use Rattle.std.specs.IoError.{error_kind}
use Rattle.std.specs.declared.io.Error.{Error}
use Rattle.std.specs.declared.io.ErrorKind.TheVariants.{OutOfMemory}
use Rattle.std.specs.declared.alloc.AllocError.{AllocError}
use Rattle.ninja_text.specs.Bytes.{Text}
use Rattle.ninja_text.specs.declared.failure.Failure.{Failure}
use Rattle.ninja_text.specs.declared.failure.Failure.TheVariants.{Memory, Fault}
use Rattle.commands.specs.Locations.{if_in, nowhere}
use Rattle.commands.specs.Outcomes.{LineValue, Outcome, failed, located, refusal}
use Rattle.commands.specs.declared.location.Document.{Document}
use Rattle.commands.specs.declared.location.Location.{Location}

-- the run stops with this status and message at an error that is there, or because there was no
-- memory for the message
abbrev pub IsStoppedWith : ℕ → Result (Vec ℕ Global) AllocError → Location → Failure LineValue
    → Type 0
IsStoppedWith number (Err refused) at stop = stop ≡ Memory
IsStoppedWith number (Ok message) at stop =
    stop ≡ Fault (failed number (located message.items at))

-- The run stops because memory ran out, if that is the error of a call, and with this message if
-- it is another error.
abbrev pub IsFailedCall : Error → Result (Vec ℕ Global) AllocError → Failure LineValue → Type 0
IsFailedCall error message stop =
    (error_kind error ≡ OutOfMemory → stop ≡ Memory)
    × ((error_kind error ≡ OutOfMemory → ⊥) → IsStoppedWith 3 message nowhere stop)

-- the value of a result, or why the run stops at its failure
abbrev pub OrStops : {V F : Type 0} → (Failure F → Failure LineValue → Type 0)
    → Result V (Failure F) → Outcome V → Type 0
OrStops Stops (Ok value) outcome = outcome ≡ Ok value
OrStops Stops (Err failure) (Ok value) = ⊥
OrStops Stops (Err failure) (Err stop) = Stops failure stop

-- why the run stops at a failure: memory, or the fault as it is printed, after this prefix, in the
-- document that it is in
abbrev pub ReportsPrinted : {F : Type 0} → Text → Option Document → (F → Option Text)
    → (F → Location) → Failure F → Failure LineValue → Type 0
ReportsPrinted prefix document output location Memory stop = stop ≡ Memory
ReportsPrinted prefix document output location (Fault fault) Memory = ⊤
ReportsPrinted prefix document output location (Fault fault) (Fault stop) =
    (text : Text) → output fault ≡ Some text →
    stop ≡ refusal (located (prefix ++ text) (if_in document (location fault)))
