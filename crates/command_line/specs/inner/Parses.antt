-- The program's commands as the parser sees them, and the task that a parse finds.
use Rattle.std.specs.Prelude.{Bool, true, false, List, [], ◌∷◌, Option, Some, None, option_map, option_and_then, fold, if◌then◌else◌, codes}
use Rattle.std.specs.Str.{bytes_eq}
use Rattle.clap.specs.Words.{App, Row, Rule, Shape, Text, new_app, new_rule, with_rule, first_of}
use Rattle.clap.specs.Simple.{new_shape}
use Rattle.clap.specs.declared.builder.command.Command.{Command}
use Rattle.clap.specs.declared.builder.command.Command.TheViews.{out-Command}
use Rattle.command_line.specs.Tasks.{TaskValue, one, collate, show, effect, order, project}

-- the command or a subcommand has an argument that is passed on to all subcommands
abbrev pub has_globals : Command → Bool
has_globals c = (out-Command c).has_globals

-- a required operand
abbrev pub needed : Text → Rule
needed id = record (new_rule id) { required = true }

-- a command with these operands
abbrev pub command_app : Text → List Text → App
command_app name = fold (λ app operand. with_rule app (needed operand)) (new_app name)

-- the command that has the others as subcommands; it has no flag and no subcommand for help
abbrev pub top : Shape
top = record (new_shape (codes "dyncollate")) {
  disable_help_flag = true;
  disable_help_subcommand = true;
  subcommand_required = true;
}

-- the program's commands
abbrev pub program : App
program = record {
  top = record top { is_leaf = false };
  subs = (command_app (codes "one") (codes "scan" ∷ codes "dir" ∷ codes "ext" ∷ [])).top
      ∷ (command_app (codes "collate") (codes "target" ∷ [])).top
      ∷ (command_app (codes "show") (codes "dyndep" ∷ [])).top
      ∷ (command_app (codes "effect") (codes "name" ∷ codes "edges" ∷ codes "dyndep" ∷ [])).top
      ∷ (command_app (codes "order") (codes "edges" ∷ [])).top
      ∷ (command_app (codes "project") (codes "document" ∷ [])).top ∷ [];
}

-- three operands
abbrev pub Three : Type 0
Three = Text × Text × Text

-- three operands, if all were found
abbrev pub three : Option Text → Option Text → Option Text → Option Three
three (Some first) (Some second) (Some third) = Some (first, second, third)
three _ _ _ = None

-- the task with these three operands
abbrev pub made : (Text → Text → Text → TaskValue) → Three → TaskValue
made task (first, second, third) = task first second third

-- the task of a command, from what was found for each operand by name
abbrev pub task_by : Text → (Text → Option Text) → Option TaskValue
task_by command found =
    if bytes_eq command (codes "one")
    then option_map (made one)
    (three (found (codes "scan")) (found (codes "dir")) (found (codes "ext")))
    else (if bytes_eq command (codes "collate") then option_map collate (found (codes "target"))
    else (if bytes_eq command (codes "show") then option_map show (found (codes "dyndep"))
    else (if bytes_eq command (codes "effect")
    then option_map (made effect)
    (three (found (codes "name")) (found (codes "edges")) (found (codes "dyndep")))
    else (if bytes_eq command (codes "order") then option_map order (found (codes "edges"))
    else (if bytes_eq command (codes "project") then option_map project (found (codes "document"))
    else None)))))

-- the task of a subcommand, from its name and what was found for it
abbrev pub task_found : Option (Text × List Row) → Option TaskValue
task_found = option_and_then (λ found. task_by found.0 (λ operand. first_of operand found.1))
