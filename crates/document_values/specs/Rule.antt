-- The view of a rule of a scan document.
use Rattle.std.specs.Prelude.{List}
use Rattle.ninja_text.specs.Bytes.{PathText, Name}

-- an object file, the modules that its source provides, each with its BMI (compiled module file),
-- and the modules that it requires
pub record RuleValue : Type 0 where
  pub object : PathText
  pub provided : List (Name × PathText)
  pub required : List Name
