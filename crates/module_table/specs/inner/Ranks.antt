-- Modules in byte order of names.
use Rattle.std.specs.Prelude.{◌≡◌, ℕ, ◌+◌, ◌<◌, ◌^◌, List, length, map, slice_get, slice_index, Some, AllPairs}
use Rattle.std.specs.Borrow.{Bor}
use Rattle.module_table.specs.TableValue.{TableValue}
use Rattle.module_table.specs.Modules.{Provision, provisions}
use Rattle.module_table.specs.Sound.{IsSound}
use Rattle.module_table.specs.Needed.{lent}
use Rattle.ninja_text.specs.Bytes.{Precedes}
use Rattle.module_table.specs.inner.Indexed.{pair_at}
use Rattle.module_table.specs.inner.Graph.{IsModuleGraph}
use Rattle.module_table.specs.declared.needed.Numbered.{Numbered}

-- the name and the file of a module
abbrev pub pair_in : Numbered → Bor (List ℕ) × Bor (List ℕ)
pair_in m = (m.name, m.file)

abbrev pub pairs_of : List Numbered → List (Bor (List ℕ) × Bor (List ℕ))
pairs_of modules = map pair_in modules

-- the first `count` modules, in order of their numbers
pub record AreByNumber (provided : List Provision) (count : ℕ) (modules : List Numbered)
    : Type 0 where
  pub as_many : length modules ≡ count
  pub numbers : (k : ℕ) (m : Numbered) → slice_get modules k ≡ Some m → m.index ≡ k
  pub pairs : (k : ℕ) (m : Numbered) → slice_get modules k ≡ Some m
      → pair_at provided k ≡ Some (lent (pair_in m))

-- all modules, each once, in byte order of names
pub record AreByName (provided : List Provision) (modules : List Numbered) : Type 0 where
  pub as_many : length modules ≡ length provided
  pub pairs : (r : ℕ) (m : Numbered) → slice_get modules r ≡ Some m
      → pair_at provided m.index ≡ Some (lent (pair_in m))
  pub all : (k : ℕ) → k < length provided → (r : ℕ) × (m : Numbered)
      × (slice_get modules r ≡ Some m) × (m.index ≡ k)
  pub rising : AllPairs (λ a b. Precedes a.name.now b.name.now) modules

-- the numbers are different, and smaller than the number of modules
pub record AreNumbers (modules : List Numbered) : Type 0 where
  pub below : (r : ℕ) (m : Numbered) → slice_get modules r ≡ Some m → m.index < length modules
  pub once : (r s : ℕ) (m n : Numbered) → slice_get modules r ≡ Some m
      → slice_get modules s ≡ Some n → m.index ≡ n.index → r ≡ s

-- `ranks` has, for the number of each of the first `count` modules, its index in `modules`
pub record AreRanks (modules : List Numbered) (count : ℕ) (ranks : List ℕ) : Type 0 where
  pub as_many : length ranks ≡ length modules
  pub each : (r : ℕ) (m : Numbered) → r < count → slice_get modules r ≡ Some m
      → slice_index ranks m.index ≡ r

-- `pairs` has the names and files of all modules in byte order of names, and `ranks` has the index
-- there of each module, by number.
pub record AreRanked (provided : List Provision) (ranks : List ℕ) (pairs : List (List ℕ × List ℕ))
    : Type 0 where
  pub as_many : length ranks ≡ length provided
  pub each : (k : ℕ) (p : Provision) → slice_get provided k ≡ Some p → (r : ℕ)
      × (slice_get ranks k ≡ Some r) × (slice_get pairs r ≡ Some (p.name, p.file))
  pub rising : AllPairs (λ a b. Precedes a.0 b.0) pairs

-- what finds the modules that the objects of a sound table need
pub record AreNeeds (t : TableValue) (graph : List (List ℕ)) (ranks : List ℕ)
    (modules : List Numbered) : Type 0 where
  pub sound : IsSound t
  pub is_graph : IsModuleGraph t graph
  pub ranked : AreRanked (provisions t) ranks (map lent (pairs_of modules))
  pub few : length (provisions t) + length t.objects < 2 ^ 64
