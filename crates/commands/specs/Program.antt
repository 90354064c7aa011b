-- What the program does with its arguments.
use Rattle.std.specs.Prelude.{◌≡◌, ◌⊎◌, ℕ, List, [], drop, map, Option, Some, None, Result, Ok, Err, String, Vec, string_bytes, codes}
use Rattle.std.specs.Global.{Global}
use Rattle.std.specs.IoError.{error_kind}
use Rattle.std.specs.declared.alloc.AllocError.{AllocError}
use Rattle.std.specs.declared.io.Error.{Error}
use Rattle.std.specs.declared.io.ErrorKind.TheVariants.{OutOfMemory}
use Rattle.ninja_text.specs.Bytes.{Bytes}
use Rattle.ninja_text.specs.declared.counting.Counted.{Counted}
use Rattle.ninja_text.specs.declared.failure.Failure.TheVariants.{Memory, Fault}
use Rattle.command_line.specs.Arguments.{Argument}
use Rattle.command_line.specs.Tasks.{TaskValue, task_in}
use Rattle.commands.specs.Answers.{IsAnswered}
use Rattle.commands.specs.Files.{WritesFiles}
use Rattle.commands.specs.Folder.{FileCall}
use Rattle.commands.specs.Outcomes.{Part, Outcome, OutputValue, Comes, Runs, failed, unlocated, ◌>>=◌}
use Rattle.commands.specs.Printing.{IsPrinted, IsUnprinted}
use Rattle.commands.specs.Runs.{TaskRun}
use Rattle.commands.specs.declared.answer.Answer.{Answer}

-- the arguments, or why there are none
abbrev pub Words : Type 0
Words = Result (List Argument) Error

abbrev pub words_of : Result (Vec (String Global) Global) Error → Words
words_of (Ok words) = Ok (map string_bytes words.items)
words_of (Err error) = Err error

-- the arguments, the program's own name the first of them, are this command line
abbrev pub AreTask : Words → Option TaskValue → Type 0
AreTask (Ok words) task = task_in (drop 1 words) ≡ task
AreTask (Err error) (Some task) = ⊥
AreTask (Err error) None = error_kind error ≡ OutOfMemory → ⊥

-- the task of the arguments, or status 2 if they are not a valid command line
abbrev pub ArgumentsOf : Words → Part TaskValue
ArgumentsOf words calls (Ok task) = (calls ≡ []) × AreTask words (Some task)
ArgumentsOf words calls (Err Memory) = calls ≡ []
ArgumentsOf words calls (Err (Fault stop)) =
    (calls ≡ []) × AreTask words None × (stop ≡ failed 2 (unlocated (codes "usage")))

-- What a run reads and writes for the arguments.
abbrev pub ArgumentsRun : Words → Part OutputValue
ArgumentsRun words = do
  task ← ArgumentsOf words
  output ← TaskRun task
  _ ← WritesFiles output.files
  Comes (λ done. done ≡ output)

-- The program makes these calls and no other, and what they lead to is what it prints, with the
-- exit status of that.
pub record IsProgramRun {O E : Type 0} (outs : O → Option Bytes) (errs : E → Option Bytes)
    (old_calls new_calls : Option (List FileCall)) (old_out new_out : Counted O)
    (old_err new_err : Counted E) (words : Words) (number : ℕ) : Type 0 where
  pub outcome : Outcome OutputValue
  pub runs : Runs old_calls new_calls (ArgumentsRun words) outcome
  pub answer : Result Answer AllocError
  pub answered : IsAnswered outcome answer
  pub printed : IsPrinted outs errs old_out new_out old_err new_err answer number
      ⊎ IsUnprinted outs errs old_out new_out old_err new_err answer number
