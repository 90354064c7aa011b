-- Which task the program's arguments ask for.
use Rattle.std.specs.Prelude.{◌≡◌, ◌==◌, Bool, false, List, [], ◌∷◌, drop}
use Rattle.std.specs.Prelude.{Option, Some, None, option_map, option_and_then, if◌then◌else◌, codes}
use Rattle.std.specs.Str.{bytes_eq}
use Rattle.command_line.specs.Arguments.{Argument, dash}
use Rattle.command_line.specs.declared.Task.{Task}
use Rattle.command_line.specs.declared.Task.TheVariants as task

-- a task with its operands
pub data TaskValue : Type 0 where
  one : Argument → Argument → Argument → TaskValue
  collate : Argument → TaskValue
  show : Argument → TaskValue
  effect : Argument → Argument → Argument → TaskValue
  order : Argument → TaskValue
  project : Argument → TaskValue

-- the task as contracts see it
abbrev pub task_value : Task → TaskValue
task_value (task.One scan dir ext) = one scan.now dir.now ext.now
task_value (task.Collate target) = collate target.now
task_value (task.Show dyndep) = show dyndep.now
task_value (task.Effect name edges dyndep) = effect name.now edges.now dyndep.now
task_value (task.Order edges) = order edges.now
task_value (task.Project document) = project document.now

-- the argument has two or more bytes and begins with a dash
abbrev pub is_flag : Argument → Bool
is_flag (first ∷ _ ∷ _) = first == dash
is_flag _ = false

-- The operands among the arguments after a command, or None if one of the arguments is a flag. The
-- first `--` is dropped, and every argument after it is an operand.
abbrev pub operands : List Argument → Option (List Argument)
operands [] = Some []
operands (argument ∷ arguments) =
    if bytes_eq argument (codes "--") then Some arguments
    else (if is_flag argument then None
    else option_map (λ others. argument ∷ others) (operands arguments))

-- the task of `one`, if the number of operands is right
abbrev pub one_task : List Argument → Option TaskValue
one_task (scan ∷ dir ∷ ext ∷ []) = Some (one scan dir ext)
one_task _ = None

-- the task of `collate`, if the number of operands is right
abbrev pub collate_task : List Argument → Option TaskValue
collate_task (target ∷ []) = Some (collate target)
collate_task _ = None

-- the task of `show`, if the number of operands is right
abbrev pub show_task : List Argument → Option TaskValue
show_task (dyndep ∷ []) = Some (show dyndep)
show_task _ = None

-- the task of `effect`, if the number of operands is right
abbrev pub effect_task : List Argument → Option TaskValue
effect_task (name ∷ edges ∷ dyndep ∷ []) = Some (effect name edges dyndep)
effect_task _ = None

-- the task of `order`, if the number of operands is right
abbrev pub order_task : List Argument → Option TaskValue
order_task (edges ∷ []) = Some (order edges)
order_task _ = None

-- the task of `project`, if the number of operands is right
abbrev pub project_task : List Argument → Option TaskValue
project_task (document ∷ []) = Some (project document)
project_task _ = None

-- the task of a command and its operands
abbrev pub task_from : Argument → List Argument → Option TaskValue
task_from command given =
    if bytes_eq command (codes "one") then one_task given
    else (if bytes_eq command (codes "collate") then collate_task given
    else (if bytes_eq command (codes "show") then show_task given
    else (if bytes_eq command (codes "effect") then effect_task given
    else (if bytes_eq command (codes "order") then order_task given
    else (if bytes_eq command (codes "project") then project_task given else None)))))

-- the task of the arguments after the program's name, if they are a valid command line
abbrev pub task_in : List Argument → Option TaskValue
task_in [] = None
task_in (command ∷ arguments) = option_and_then (task_from command) (operands arguments)

-- these arguments ask for this task; the first argument is the program's own name
abbrev pub AreCallOf : List Argument → Option Task → Type 0
AreCallOf arguments task = option_map task_value task ≡ task_in (drop 1 arguments)
