-- The module maps of a target's objects.
use Rattle.std.specs.Prelude.{◌≡◌, ℕ}
use Rattle.document_values.specs.Rule.{RuleValue}
use Rattle.module_maps.specs.Values.{ModuleMapValue}
use Rattle.module_maps.specs.Maps.{IsModuleMap}
use Rattle.module_table.specs.TableValue.{TableValue}
use Rattle.module_table.specs.Needed.{ArePairs, IsNeeded}

-- The map of an object: the modules that it provides, in order, and all modules that it needs.
pub record IsMapOf (t : TableValue) (object : ℕ) (rule : RuleValue)
    (m : ModuleMapValue) : Type 0 where
  pub is_map : IsModuleMap m
  pub provided : m.provided ≡ rule.provided
  pub needed : ArePairs (IsNeeded t object) m.needed
