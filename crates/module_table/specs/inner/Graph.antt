-- The graph of what modules and objects need, by index.
use Rattle.std.specs.Prelude.{◌≡◌, ℕ, ◌+◌, List, [], ◌∷◌, ◌++◌, length, map, slice_get, Contains, Option, Some, None, position, bytes_eq}
use Rattle.std.specs.List.{filter_map, AllZip}
use Rattle.std.specs.List.Sorted.{IsStrictlyIncreasing}
use Rattle.document_values.specs.Info.{InfoValue, ModuleValue}
use Rattle.module_table.specs.TableValue.{TableValue}
use Rattle.module_table.specs.Modules.{provisions}
use Rattle.module_table.specs.inner.Views.{names_of}
use Rattle.module_table.specs.inner.Origins.{origins_of}
use Rattle.module_table.specs.inner.Indexed.{IsInfosModule}
use Rattle.module_table.specs.declared.fault.Maker.{Maker}
use Rattle.module_table.specs.declared.fault.Maker.TheVariants.{Object, Info}

-- the index of a name
abbrev pub index_in : List (List ℕ) → List ℕ → Option ℕ
index_in names name = position (λ other. bytes_eq name other) names

-- the indexes of the names of these pairs
abbrev pub indexes_in : List (List ℕ) → List (List ℕ × List ℕ) → List ℕ
indexes_in names pairs = filter_map (λ pair. index_in names pair.0) pairs

-- A module of an object needs that object; objects are numbered after all modules. A module of an
-- info file needs the modules that it requires.
abbrev pub IsModuleRow : List (List ℕ) → List InfoValue → Maker × ℕ → List ℕ → Type 0
IsModuleRow names infos (Object object, index) row = row ≡ (length names + object) ∷ []
IsModuleRow names infos (Info info, index) row = (entry : ModuleValue)
    × IsInfosModule infos info index entry × (row ≡ indexes_in names entry.required)

-- what each module needs, by index
abbrev pub AreModuleRows : TableValue → List (List ℕ) → Type 0
AreModuleRows t modules = AllZip (IsModuleRow (names_of (provisions t)) t.infos) (origins_of t)
    modules

-- the second list has the numbers of the first, each once
pub record HasEachOnce (row once : List ℕ) : Type 0 where
  pub kept : (n : ℕ) → Contains row n → Contains once n
  pub only : (n : ℕ) → Contains once n → Contains row n
  pub rising : IsStrictlyIncreasing once

-- First what each module needs, then what each object needs: the modules that it requires. The
-- graph has each needed number once, however often it is required.
pub record IsModuleGraph (t : TableValue) (graph : List (List ℕ)) : Type 0 where
  pub modules : List (List ℕ)
  pub objects : List (List ℕ)
  pub all : AllZip HasEachOnce (modules ++ objects) graph
  pub of_modules : AreModuleRows t modules
  pub of_objects : map (λ row. map (slice_get (names_of (provisions t))) row) objects
      ≡ map (λ rule. map (λ name. Some name) rule.required) t.objects

-- what a module with this origin needs, if an object provides it: that object
abbrev pub object_row : ℕ → Maker × ℕ → Option (List ℕ)
object_row count (Object object, index) = Some ((count + object) ∷ [])
object_row count (Info info, index) = None

-- what each module of an info file needs
abbrev pub info_rows : List (List ℕ) → ℕ × InfoValue → List (List ℕ)
info_rows names info = map (λ entry. indexes_in names entry.required) info.1.modules
