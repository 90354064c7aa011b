-- The info file of a target, for the targets that link it.
use Rattle.std.specs.Prelude.{Bool, List, map, bytes_eq}
use Rattle.std.specs.List.{flat_map, list_any}
use Rattle.ninja_text.specs.Bytes.{PathText, Name}
use Rattle.document_values.specs.Info.{ModuleValue, InfoValue}
use Rattle.module_table.specs.TableValue.{TableValue}
use Rattle.module_table.specs.Added.{Task, tasks_of}

-- whether this is one of the target's private names
abbrev pub is_private_name : List Name → Name → Bool
is_private_name private_names name = list_any (bytes_eq name) private_names

-- a module of an object, with what the object requires
abbrev pub module_of : List Name → List (Name × PathText) → Name × PathText → ModuleValue
module_of private_names required pair = record {
  name = pair.0;
  file = pair.1;
  required = required;
  is_private = is_private_name private_names pair.0;
}

-- the modules that an object provides, each with what the object requires
abbrev pub modules_of : List Name → Task → List ModuleValue
modules_of private_names task = map (module_of private_names task.1) task.0.provided

-- the info file of a target with this name and these private names: all modules that its objects
-- provide, in order
abbrev pub info_of_table : Name → List Name → TableValue → InfoValue
info_of_table name private_names t = record {
  target = name;
  modules = flat_map (modules_of private_names) (tasks_of t);
}
