-- Requirements as indexes of modules.
use Rattle.std.specs.Prelude.{◌≡◌, ℕ, List, map, slice_get, Option, Some, None, option_and_then}
use Rattle.module_table.specs.TableValue.{TableValue}
use Rattle.module_table.specs.Modules.{Provision, provisions}
use Rattle.ninja_text.specs.Firsts.{AllDiffer}
use Rattle.module_table.specs.inner.Views.{names_of}
use Rattle.module_table.specs.declared.fault.Maker.{Maker}
use Rattle.module_table.specs.declared.fault.Maker.TheVariants.{Object, Info}

-- each object's row has the indexes of the modules that the object requires
abbrev pub AreRequiredIndexes : TableValue → List (List ℕ) → Type 0
AreRequiredIndexes t rows =
    map (λ row. map (slice_get (names_of (provisions t))) row) rows
    ≡ map (λ rule. map (λ name. Some name) rule.required) t.objects

-- the same, for the list of all provided modules, which have different names
pub record IsNumbered (t : TableValue) (provided : List Provision) (rows : List (List ℕ))
    : Type 0 where
  pub all_provided : provided ≡ provisions t
  pub differ : AllDiffer (names_of provided)
  pub numbers : map (λ row. map (slice_get (names_of provided)) row) rows
      ≡ map (λ rule. map (λ name. Some name) rule.required) t.objects

-- the producer, if it is an object
abbrev pub object_of : Maker → Option ℕ
object_of (Object object) = Some object
object_of (Info info) = None

-- the object that provides the module at this index, if an object does
abbrev pub maker_at : List Provision → ℕ → Option ℕ
maker_at provided number = option_and_then (λ p. object_of p.maker) (slice_get provided number)
