-- What the program writes of a run's answer, and the status that it ends with.
use Rattle.std.specs.Prelude.{◌≡◌, ℕ, ◌⊎◌, [], Option, Result, Ok, Err, codes}
use Rattle.std.specs.declared.alloc.AllocError.{AllocError}
use Rattle.ninja_text.specs.Bytes.{Bytes, Text}
use Rattle.ninja_text.specs.declared.counting.Counted.{Counted}
use Rattle.ninja_text.specs.Counting.{IsWritten, IsCutShort}
use Rattle.commands.specs.declared.answer.Answer.{Answer}
use Rattle.commands.specs.Answers.{line}

-- the status of a run, in which memory may have run out
abbrev pub status_of : Result Answer AllocError → ℕ
status_of (Ok answer) = answer.status
status_of (Err e) = 3

-- the bytes for standard output
abbrev pub out_of : Result Answer AllocError → Bytes
out_of (Ok answer) = answer.out.items
out_of (Err e) = []

-- the bytes for standard error
abbrev pub err_of : Result Answer AllocError → Bytes
err_of (Ok answer) = answer.err.items
err_of (Err e) = line (codes "out of memory")

-- the text went to the writer, or a beginning of it up to a call that failed
abbrev pub IsPut : {W : Type 0} → (W → Option Bytes) → Counted W → Counted W → Text → Type 0
IsPut contents old new text =
    IsWritten contents old new text ⊎ ((written : ℕ) × IsCutShort contents old new text written)

-- All of the run's standard output was written, its standard error was put, and the status is the
-- run's.
pub record IsPrinted {O E : Type 0} (outs : O → Option Bytes) (errs : E → Option Bytes)
    (old_out new_out : Counted O) (old_err new_err : Counted E)
    (answer : Result Answer AllocError) (number : ℕ) : Type 0 where
  pub out : IsWritten outs old_out new_out (out_of answer)
  pub err : IsPut errs old_err new_err (err_of answer)
  pub status : number ≡ status_of answer

-- A call failed before all of the run's standard output was written: a line says so, and the status
-- is 3.
pub record IsUnprinted {O E : Type 0} (outs : O → Option Bytes) (errs : E → Option Bytes)
    (old_out new_out : Counted O) (old_err new_err : Counted E)
    (answer : Result Answer AllocError) (number : ℕ) : Type 0 where
  pub written : ℕ
  pub out : IsCutShort outs old_out new_out (out_of answer) written
  pub err : IsPut errs old_err new_err (line (codes "cannot write standard output"))
  pub status : number ≡ 3
