use Rattle.std.proofs.Common.{rules, ◌≡◌, ℕ, List, [], codes, Option, Some, None, Result, map, string_bytes, refl, ap₂, sym, Ok, Err, IfOk, String, Vec, option_map, Global}
use Rattle.commands.specs.Prelude.{error_kind, AllocError, Error, AreCallOf, task_value, Task, failed, located, nowhere, stops, AreTask, ArgumentsOf, Words, words_of, IsStoppedWith}
use Rattle.std.specs.declared.io.ErrorKind.TheVariants.{OutOfMemory}
use Rattle.ninja_text.specs.declared.failure.Failure.TheVariants.{Memory}
use Rattle.commands.specs.declared.location.Location.{Location}
use Rattle.commands.proofs.Outcomes.{none_made, pure_next, pure_last, run_next, run_once, run_last, Stop}
use Rattle.commands.proofs.run.arguments_run.Goals as goal
use Rattle.commands.proofs.run.arguments_run.Given as given
use Rattle.commands.proofs.run.arguments_run.Goals.{In-Some, in-Ok+in_ok-task-in-Ok, in-Err-2}

-- the task that was found is that of the arguments
of_words : (arguments : Result (Vec (String Global) Global) Error) (words : Vec (String Global) Global) (items : List (String Global))
    (found task : Option Task) →
    arguments ≡ Ok words → items ≡ words.items → AreCallOf (map string_bytes items) found → task ≡ found →
    AreTask (words_of arguments) (option_map task_value task)
of_words arguments words items found task is read call same =
    rw (is, same) (sym (rw read at call))

-- and there is none if there are no arguments
of_error : (arguments : Result (Vec (String Global) Global) Error) (error : Error) (task : Option Task) →
    arguments ≡ Err error → (error_kind error ≡ OutOfMemory → ⊥) → task ≡ None → AreTask (words_of arguments) (option_map task_value task)
of_error arguments error task is other same =
    rw (is, same) other

-- which is reported
refused : (words : Words) (message : Result (Vec ℕ Global) AllocError) (at : Location) (stop : Stop) →
    AreTask words None → IfOk message (λ v. v.items ≡ codes "usage") → at ≡ nowhere → IsStoppedWith 2 message at stop → ArgumentsOf words [] (Err stop)
refused words (Err error) at stop is text there h = rw h refl
refused words (Ok message) at stop is text there h = rw h (refl, is, ap₂ (λ text at. failed 2 (located text at)) text there)

pub returns-in_err-task-in-Ok : goal.returns-in_err-task-in-Ok
returns-in_err-task-in-Ok g c = pure_last _ _ refl c.from_residual.ensures

pub returns-in-Err : goal.returns-in-Err
returns-in-Err g c = ([], none_made _, stops Memory refl refl)

pub returns-in_default : goal.returns-in_default
returns-in_default g c =
    let is : AreTask (words_of c.args.arguments.now) (option_map task_value c.match-arguments.task) = elim c.match-arguments.branch [
      | in-Ok+in_ok-task-in-Ok w ↦ of_words _ _ _ _ _ w.in-Ok.is w.deref.ensures.value w.in_ok-task-in-Ok.ensures w.task-is
      | in-Err-2 w ↦ of_error _ _ _ w.in-Err-2.is (search rules) w.task-is
    ] in
    let none = rw c.in_default.is at is in
    let stop = refused (words_of c.args.arguments.now) _ _ _ none c.from_slice-message.ensures.items c.nowhere.ensures c.stopped.ensures in
    ([], none_made _, stops c.stopped.result stop refl)

-- the task that is run
its_task : (g : given.Over) (c : In-Some g) → AreTask (words_of c.args.arguments.now) (Some (task_value c.in-Some.task))
its_task g c =
    let is : AreTask (words_of c.args.arguments.now) (option_map task_value c.match-arguments.task) = elim c.match-arguments.branch [
      | in-Ok+in_ok-task-in-Ok w ↦ of_words _ _ _ _ _ w.in-Ok.is w.deref.ensures.value w.in_ok-task-in-Ok.ensures w.task-is
      | in-Err-2 w ↦ of_error _ _ _ w.in-Err-2.is (search rules) w.task-is
    ] in
    rw c.in-Some.is at is

pub returns-in_err-output : goal.returns-in_err-output
returns-in_err-output g c =
    pure_next _ (task_value c.in-Some.task) (refl, its_task g (goal.at.returns-in_err-output g c).In-Some)
    (run_last _ _ c.in_err-output.ensures c.from_residual-in_err-output.ensures)

pub returns-in_err-write_files : goal.returns-in_err-write_files
returns-in_err-write_files g c =
    pure_next _ (task_value c.in-Some.task) (refl, its_task g (goal.at.returns-in_err-write_files g c).In-Some)
    (run_next _ _ c.in_ok-output.ensures (run_last _ _ c.in_err-write_files.ensures c.from_residual-in_err-write_files.ensures))

pub returns : goal.returns
returns g c =
    pure_next _ (task_value c.in-Some.task) (refl, its_task g (goal.at.returns g c).In-Some)
    (run_next _ _ c.in_ok-output.ensures (run_once _ _ c.in_ok-write_files.ensures (refl, refl)))
