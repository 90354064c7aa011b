-- The origin of each provided module: its producer, and its index in what the producer provides.
use Rattle.std.specs.Prelude.{◌≡◌, ℕ, List, ◌++◌, map}
use Rattle.std.specs.List.{flat_map, enumerate_from}
use Rattle.document_values.specs.Rule.{RuleValue}
use Rattle.document_values.specs.Info.{InfoValue}
use Rattle.table_keys.specs.declared.TableKey.{TableKey}
use Rattle.module_table.specs.TableValue.{TableValue}
use Rattle.module_table.specs.Entries.{CoversTable}
use Rattle.module_table.specs.Modules.{provisions}
use Rattle.module_table.specs.inner.Views.{provision_of, names_of, DoNamesDiffer}
use Rattle.module_table.specs.declared.fault.Maker.{Maker}
use Rattle.module_table.specs.declared.fault.Maker.TheVariants.{Object, Info}
use Rattle.module_table.specs.declared.modules.Module.{Module}

-- the producer of a module, and the module's index there
abbrev pub Origin : Type 0
Origin = Maker × ℕ

abbrev pub object_origins : ℕ × RuleValue → List Origin
object_origins object = map (λ p. (Object object.0, p.0)) (enumerate_from 0 object.1.provided)

abbrev pub info_origins : ℕ × InfoValue → List Origin
info_origins info = map (λ m. (Info info.0, m.0)) (enumerate_from 0 info.1.modules)

-- the origins of all provided modules: by object and index, then by info file and index
abbrev pub origins_of : TableValue → List Origin
origins_of t = flat_map object_origins (enumerate_from 0 t.objects)
    ++ flat_map info_origins (enumerate_from 0 t.infos)

-- the origin of a borrowed module
abbrev pub origin_of : Module → Origin
origin_of p = (p.maker, p.index)

-- these are the provided modules
pub record AreProvided (t : TableValue) (provided : List Module) : Type 0 where
  pub modules : map provision_of provided ≡ provisions t
  pub origins : map origin_of provided ≡ origins_of t

-- These are the provided modules and their names, which differ. The key of the names covers the
-- table.
pub record AreNamed (t : TableValue) (provided : List Module) (names : List (List ℕ))
    (key : TableKey) : Type 0 where
  pub are_provided : AreProvided t provided
  pub are_names : names ≡ names_of (provisions t)
  pub differ : DoNamesDiffer t
  pub covered : CoversTable key t
