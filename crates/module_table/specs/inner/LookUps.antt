-- What a table stores for lookups.
use Rattle.std.specs.Prelude.{◌≡◌, ℕ, List, map, Vec}
use Rattle.std.specs.declared.alloc.Global.{Global}
use Rattle.indexmap.specs.IndexSet.{hasher_of}
use Rattle.ninja_text.specs.Bytes.{PathText, Name}
use Rattle.table_keys.specs.declared.TableKey.{TableKey}
use Rattle.module_table.specs.TableValue.{TableValue}
use Rattle.module_table.specs.Modules.{provisions}
use Rattle.module_table.specs.Added.{first_mentions, required_of}
use Rattle.module_table.specs.Entries.{CoversTable}
use Rattle.module_table.specs.inner.Graph.{IsModuleGraph}
use Rattle.module_table.specs.inner.Origins.{Origin, origins_of}
use Rattle.module_table.specs.inner.Mentioned.{mentioned_names}
use Rattle.module_table.specs.inner.Views.{names_of, paths_of}
use Rattle.module_table.specs.declared.checks.Index.{Index}

-- these are the modules that each object requires
abbrev pub AreRequired : TableValue → List (Vec (Name × PathText) Global) → Type 0
AreRequired t rows = map (λ row. row.items) rows ≡ map (required_of t) t.objects

-- The index has the names and origins of all modules, the graph of what modules and objects need,
-- and the modules that each object requires. The key of the names covers the table.
pub record IsIndex (t : TableValue) (index : Index) : Type 0 where
  pub all_names : index.names.keys ≡ names_of (provisions t)
  pub all_origins : index.origins.items ≡ origins_of t
  pub is_graph : IsModuleGraph t index.graph
  pub all_required : AreRequired t index.required.items
  pub covered : CoversTable (hasher_of index.names) t

-- What a table stores besides its objects and info files. Each name that it mentions is that of a
-- module. The keys of its names and its paths cover the table.
pub record AreStored (t : TableValue) (names : List Name) (origins : List Origin)
    (graph : List (List ℕ)) (paths : List PathText) (names_key paths_key : TableKey)
    : Type 0 where
  pub all_names : names ≡ names_of (provisions t)
  pub all_origins : origins ≡ origins_of t
  pub is_graph : IsModuleGraph t graph
  pub all_paths : paths ≡ paths_of t
  pub mentioned : names ≡ first_mentions (mentioned_names t)
  pub names_covered : CoversTable names_key t
  pub paths_covered : CoversTable paths_key t
