-- What contracts see of module maps.
use Rattle.std.specs.Prelude.{List}
use Rattle.ninja_text.specs.Bytes.{PathText, Name}

-- the modules that an object provides and those that it needs: pairs of a name and a BMI
pub record ModuleMapValue : Type 0 where
  pub provided : List (Name × PathText)
  pub needed : List (Name × PathText)
