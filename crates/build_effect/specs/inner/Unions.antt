-- Several dyndep files at once: their statements together, and the edges with what all of them add.
use Rattle.std.specs.Prelude.{◌≡◌, ℕ, List, length, slice_get, Option, Some}
use Rattle.std.specs.List.{flat_map}
use Rattle.dyndep_file.specs.StatementValue.{StatementValue}
use Rattle.build_effect.specs.DyndepFiles.{DyndepFileValue}
use Rattle.build_effect.specs.EdgeValue.{EdgeValue}
use Rattle.build_effect.specs.Effect.{AreCanonical, IsOn, AllBound, OnlyEffect}
use Rattle.build_effect.specs.Graphs.{Names, EdgeNeeds}
use Rattle.build_effect.specs.inner.Makers.{Made, maker_in}
use Rattle.build_effect.specs.inner.StatementEdges.{statement_on}

-- the table has the name of each file, and the names differ
pub record AreNames (files : List DyndepFileValue) (names : Made) : Type 0 where
  pub has : (n : ℕ) (f : DyndepFileValue) → slice_get files n ≡ Some f →
      (k : ℕ) × (maker_in names f.name ≡ Some k)
  pub differ : (n m : ℕ) (f h : DyndepFileValue) → slice_get files n ≡ Some f →
      slice_get files m ≡ Some h → f.name ≡ h.name → n ≡ m

-- The additions are those of the files, one file after another, each on an edge that names its
-- file. `edge_of` has the edge of each.
pub record AreJoined (g : List EdgeValue) (files : List DyndepFileValue)
    (additions : List StatementValue) (edge_of : List ℕ) : Type 0 where
  pub parts : List (List StatementValue)
  pub one_each : length parts ≡ length files
  pub all : flat_map (λ part. part) parts ≡ additions
  pub canonical : (n : ℕ) (f : DyndepFileValue) (part : List StatementValue) →
      slice_get files n ≡ Some f → slice_get parts n ≡ Some part → AreCanonical f.statements part
  pub bound : (n : ℕ) (f : DyndepFileValue) (part : List StatementValue) →
      slice_get files n ≡ Some f → slice_get parts n ≡ Some part → AllBound g f.name part
  pub count : length edge_of ≡ length additions
  pub edges : (k : ℕ) (a : StatementValue) (i : ℕ) → slice_get additions k ≡ Some a →
      slice_get edge_of k ≡ Some i → (e : EdgeValue) × (slice_get g i ≡ Some e) × IsOn a e

-- the edge names a file of the table
abbrev pub NamesListed : Made → EdgeValue → Type 0
NamesListed names e =
    (file : List ℕ) × (k : ℕ) × (maker_in names file ≡ Some k) × Names file e

-- each edge that names a file of the table has a statement
abbrev pub ListedHaveStatements : List EdgeValue → Made → List (Option ℕ) → Type 0
ListedHaveStatements g names statement_of =
    (i : ℕ) (e : EdgeValue) → slice_get g i ≡ Some e → NamesListed names e →
    (k : ℕ) × (statement_on statement_of i ≡ Some k)

-- The file has exactly one effect on the graph, after which each edge needs only what the edge with
-- the same index needs in the union.
abbrev pub HasEffectWithin : List EdgeValue → List EdgeValue → DyndepFileValue → Type 0
HasEffectWithin g union file =
    (new : List EdgeValue) × OnlyEffect g file.name file.statements new
    × (length new ≡ length union)
    × ((a b : ℕ) → EdgeNeeds new a b → EdgeNeeds union a b)
