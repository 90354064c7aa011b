-- A pool of info files: what contracts see of it, what is added to it, and which of its info files a
-- target links.
use Rattle.std.specs.Prelude.{◌≡◌, ◌⊎◌, ◌++◌, ◌∷◌, [], List, map, get_or, Option, Some, None}
use Rattle.std.specs.List.{flat_map}
use Rattle.table_keys.specs.Entries.{TableEntries}
use Rattle.table_keys.specs.declared.TableKey.{TableKey}
use Rattle.document_values.specs.Info.{InfoValue}
use Rattle.module_table.specs.Indexes.{Indexes}

-- The info files of a pool, with `None` in place of each that is not known, and the key under which
-- the pool hashes names and files.
pub record PoolValue : Type 0 where
  pub infos : List (Option InfoValue)
  pub key : TableKey

-- the strings of an info file that a pool hashes: the names and files of its modules
abbrev pub pool_entries : InfoValue → TableEntries
pool_entries info = flat_map (λ m. m.name ∷ m.file ∷ []) info.modules

-- these are the known info files at the linked indexes
abbrev pub AreLinked : List (Option InfoValue) → Indexes → List InfoValue → Type 0
AreLinked known linked infos =
    map (λ info. Some info) infos ≡ map (λ k. get_or known k None) linked

-- the info file was added, or None in its place
abbrev pub IsAdded : List (Option InfoValue) → Option InfoValue → List (Option InfoValue) → Type 0
IsAdded known info new = (new ≡ known ++ info ∷ []) ⊎ (new ≡ known ++ None ∷ [])
