-- The edge that produces each file.
use Rattle.std.specs.Prelude.{◌≡◌, ◌⊎◌, ℕ, suc, List, [], ◌∷◌, ◌++◌, map, bytes_eq, slice_get, Option, Some}
use Rattle.std.specs.Borrow.{Bor}
use Rattle.std.specs.HashMap.{HashMap, keys, hasher_of}
use Rattle.std.specs.List.{flat_map, filter_map}
use Rattle.std.specs.Map.{lookup}
use Rattle.std.specs.declared.alloc.Global.{Global}
use Rattle.std.specs.declared.rc.Rc.{Rc}
use Rattle.ninja_text.specs.Firsts.{IsFirstAt}
use Rattle.table_keys.specs.Keys.{IsKeyOf}
use Rattle.table_keys.specs.declared.TableKey.{TableKey}
use Rattle.build_effect.specs.EdgeValue.{EdgeValue}
use Rattle.build_effect.specs.Faults.{StandsBefore}
use Rattle.build_effect.specs.Graphs.{MakesAt, inputs_of}

-- files, each with the index of the edge that produces it
abbrev pub Made : Type 0
Made = List (List ℕ × ℕ)

-- the files without their edges
abbrev pub files_of : Made → List (List ℕ)
files_of made = map (λ m. m.0) made

-- the view of borrowed files with their edges
abbrev pub seen_files : List (Bor (List ℕ) × ℕ) → Made
seen_files made = map (λ m. (m.0.now, m.1)) made

-- a hash table with the edge that produces each file
abbrev pub Table : Type 0
Table = HashMap (List ℕ) ℕ TableKey

-- the shared tables
abbrev pub tables_of : List (Rc Table Global) → List Table
tables_of shared = map (λ table. table.value) shared

-- the entries of all tables
abbrev pub entries_of : List Table → Made
entries_of tables = flat_map (λ table. table.entries) tables

-- the key of the table is made of exactly the files in it
abbrev pub HasItsKey : Table → Type 0
HasItsKey table = IsKeyOf (hasher_of table) (keys table)

-- the edge that produces the file, if one does
abbrev pub maker_in : Made → List ℕ → Option ℕ
maker_in made file = lookup (bytes_eq file) made

-- the file at index k is already produced, or is also at an earlier index
abbrev pub IsMadeTwice : Made → List (List ℕ) → ℕ → List ℕ → Type 0
IsMadeTwice made files k file =
    ((j : ℕ) × (edge : ℕ) × (slice_get made j ≡ Some (file, edge))) ⊎ StandsBefore files k file

-- the file is the first that is already produced or is also at an earlier index
abbrev pub IsFirstTwice : Made → List (List ℕ) → List ℕ → Type 0
IsFirstTwice made files file = (k : ℕ) × IsFirstAt (IsMadeTwice made files) files k file

-- no file is already produced, and no file comes twice
abbrev pub NoneMadeTwice : Made → List (List ℕ) → Type 0
NoneMadeTwice made files =
    (k : ℕ) (file : List ℕ) → slice_get files k ≡ Some file → IsMadeTwice made files k file → ⊥

-- `made` has exactly the files that the edges produce, each with its edge
pub record AreMade (g : List EdgeValue) (made : Made) : Type 0 where
  pub found : (k : ℕ) (file : List ℕ) (i : ℕ) → slice_get made k ≡ Some (file, i) →
      (j : ℕ) × MakesAt g i j file
  pub all : (i j : ℕ) (file : List ℕ) → MakesAt g i j file →
      (k : ℕ) × (slice_get made k ≡ Some (file, i))

-- the files of each element of the list, with the edge that belongs to the index of the element
abbrev pub numbered : {X : Type 0} → (X → List (List ℕ)) → (ℕ → ℕ) → List X → Made
numbered files edge_at [] = []
numbered files edge_at (x ∷ xs) =
    map (λ file. (file, edge_at 0)) (files x) ++ numbered files (λ k. edge_at (suc k)) xs

-- the edges that produce the inputs of this edge
abbrev pub makers_row : (List ℕ → Option ℕ) → EdgeValue → List ℕ
makers_row maker e = filter_map maker (inputs_of e)
