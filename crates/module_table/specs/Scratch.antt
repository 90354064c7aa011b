-- A scratch that has not been used.
use Rattle.std.specs.Prelude.{◌≡◌, []}
use Rattle.module_table.specs.declared.pool.links.Scratch.{Scratch}

-- it has no indexes and words of links, and no picked modules
pub record IsUnused (scratch : Scratch) : Type 0 where
  pub indexes : scratch.indexes.items ≡ []
  pub words : scratch.words.items ≡ []
  pub picked : scratch.picked.modules.items ≡ []
  pub picked_indexes : scratch.picked.indexes.items ≡ []
