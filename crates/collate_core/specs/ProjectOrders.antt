-- What the dyndep files of a project do to a build, in any order.
use Rattle.std.specs.Prelude.{◌≡◌, ◌⊎◌, ℕ, ◌<◌, List, length, map, slice_get, Some, Contains}
use Rattle.std.specs.List.{zip}
use Rattle.ninja_text.specs.Bytes.{PathText, Name}
use Rattle.dep_order.specs.Numbers.{Numbers}
use Rattle.dyndep_file.specs.StatementValue.{StatementValue}
use Rattle.dep_order.specs.Needs.{IsOrderable}
use Rattle.build_effect.specs.EdgeValue.{EdgeValue}
use Rattle.build_effect.specs.Graphs.{EdgeNeeds}
use Rattle.build_effect.specs.Files.{NamedFile, FilesMeet, AreFileIndices, Applies, GainsExactly, SameFiles}
use Rattle.build_effect.specs.Numbering.{HasOutputsOnly, IsRisingNumbering, rank_at}
use Rattle.module_table.specs.TableValue.{TableValue}
use Rattle.module_table.specs.Modules.{Provides, Requires, IsProvided}
use Rattle.collate_core.specs.Values.{ProjectTargetValue}
use Rattle.collate_core.specs.Statements.{statements_of}

-- a dyndep file of statements whose paths are canonical
abbrev pub dyndep_file : PathText → List StatementValue → NamedFile
dyndep_file name statements = record {
  name = name;
  statements = statements;
  additions = statements;
}

-- the dyndep files of the targets under these names
abbrev pub dyndep_files : List PathText → List TableValue → List NamedFile
dyndep_files names tables = map (λ x. dyndep_file x.0 (statements_of x.1)) (zip names tables)

-- On every graph that meets the premises (`FilesMeet`), the dyndep files of any targets can be
-- loaded in any order. At the end, the edge of each object of these targets has gained exactly what
-- its statement adds. All orders of the same files end in the same graph.
pub record AllOrders (tables : List TableValue) : Type 0 where
  pub gains : (g : List EdgeValue) (names : List PathText) (order : Numbers) →
      length names ≡ length tables → FilesMeet g (dyndep_files names tables) →
      AreFileIndices (dyndep_files names tables) order →
      (new : List EdgeValue) × Applies (dyndep_files names tables) g order new
      × GainsExactly (dyndep_files names tables) g order new
  pub alike : (g : List EdgeValue) (names : List PathText) (order other : Numbers)
      (new last : List EdgeValue) →
      length names ≡ length tables → FilesMeet g (dyndep_files names tables) →
      AreFileIndices (dyndep_files names tables) order →
      AreFileIndices (dyndep_files names tables) other → SameFiles order other →
      Applies (dyndep_files names tables) g order new →
      Applies (dyndep_files names tables) g other last → new ≡ last

-- ---- one order of all objects

-- target n sees target m: they are the same, or n links m
abbrev pub Sees : List ProjectTargetValue → ℕ → ℕ → Type 0
Sees targets n m =
    (n ≡ m) ⊎ ((p : ProjectTargetValue) × (slice_get targets n ≡ Some p) × Contains p.linked m)

-- object p of target m, which target n sees, provides the name with this BMI
abbrev pub ProjectProvides : List ProjectTargetValue → List TableValue →
    ℕ → ℕ → ℕ → Name → PathText → Type 0
ProjectProvides targets tables n m p name file =
    (t : TableValue) × (j : ℕ) × Sees targets n m × (slice_get tables m ≡ Some t)
    × Provides t p j name file

-- Every name that an object requires is provided. All objects can be numbered so that the producer
-- of a required module has a smaller number than its users.
pub record IsProjectOrdered (targets : List ProjectTargetValue)
    (tables : List TableValue) : Type 0 where
  pub files : (n o : ℕ) (t : TableValue) (name : Name) →
      slice_get tables n ≡ Some t → Requires t o name → (file : PathText) × IsProvided t name file
  pub ranks : List Numbers
  pub below : (n o : ℕ) (t : TableValue) (name : Name) (file : PathText) →
      slice_get tables n ≡ Some t → Requires t o name → IsProvided t name file →
      (m : ℕ) × (p : ℕ) × ProjectProvides targets tables n m p name file
      × (rank_at ranks m p < rank_at ranks n o)

-- ---- the graph after all targets

-- After the dyndep files of all targets, in any order, the graph can be ordered, if the graph with
-- only the added outputs has a numbering: needed edges have smaller numbers, all edges of one
-- target have the same number, and no later target has a smaller one.
abbrev pub EndIsOrderable : List TableValue → Type 0
EndIsOrderable tables =
    (g : List EdgeValue) (names : List PathText) (order : Numbers)
    (h : List EdgeValue) (ranks : Numbers) (new : List EdgeValue) →
    length names ≡ length tables → FilesMeet g (dyndep_files names tables) →
    HasOutputsOnly (dyndep_files names tables) g h →
    IsRisingNumbering (dyndep_files names tables) g h ranks →
    ((n : ℕ) → n < length tables → Contains order n) →
    AreFileIndices (dyndep_files names tables) order →
    Applies (dyndep_files names tables) g order new → IsOrderable (length new) (EdgeNeeds new)
