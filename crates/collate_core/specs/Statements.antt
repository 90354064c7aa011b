-- The statements of a table's objects.
use Rattle.std.specs.Prelude.{not, ◌==◌, List, length, map}
use Rattle.ninja_text.specs.Bytes.{PathText, Name}
use Rattle.dyndep_file.specs.StatementValue.{StatementValue}
use Rattle.module_table.specs.TableValue.{TableValue}
use Rattle.module_table.specs.Added.{Task, tasks_of}

-- the BMIs of these modules
abbrev pub module_files : List (Name × PathText) → List PathText
module_files modules = map (λ pair. pair.1) modules

-- An object's statement. Its output is the object. Its implicit outputs are the BMIs that the
-- object provides, in order, and its implicit inputs are the BMIs that it requires, in order of
-- first mention. `restat` is set if and only if the object provides a module.
abbrev pub statement_of : Task → StatementValue
statement_of task = record {
  output = task.0.object;
  implicit_outputs = module_files task.0.provided;
  implicit_inputs = module_files task.1;
  restat = not (length task.0.provided == 0);
}

-- one statement per object, in the order of the objects
abbrev pub statements_of : TableValue → List StatementValue
statements_of t = map statement_of (tasks_of t)
