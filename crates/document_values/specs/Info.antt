-- The view of an info file.
use Rattle.std.specs.Prelude.{List, Bool}
use Rattle.ninja_text.specs.Bytes.{PathText, Name}

-- a module, its BMI, the modules that it requires, each with its BMI, and whether it is private
pub record ModuleValue : Type 0 where
  pub name : Name
  pub file : PathText
  pub required : List (Name × PathText)
  pub is_private : Bool

-- a target, and its modules in order
pub record InfoValue : Type 0 where
  pub target : Name
  pub modules : List ModuleValue
