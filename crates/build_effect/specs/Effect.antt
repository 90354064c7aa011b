-- The effect of a dyndep file on a graph, as a relation between two graphs (Ninja 1.11 manual,
-- "Dynamic dependencies").
use Rattle.std.specs.Prelude.{◌≡◌, ◌≢◌, ℕ, ◌||◌, List, ◌++◌, length, map, slice_get, Some, Ok}
use Rattle.ninja_text.specs.Bytes.{Text, PathText}
use Rattle.ninja_text.specs.Paths.{path_of}
use Rattle.dyndep_file.specs.StatementValue.{StatementValue}
use Rattle.build_effect.specs.EdgeValue.{EdgeValue}
use Rattle.build_effect.specs.Graphs.{made_by, MadeOnce, Names}

-- these are the canonical paths of the strings
abbrev pub ArePaths : List Text → List PathText → Type 0
ArePaths texts paths = map path_of texts ≡ map Ok paths

-- a is the statement s with its paths made canonical
pub record IsCanonical (s : StatementValue) (a : StatementValue) : Type 0 where
  pub output : path_of s.output ≡ Ok a.output
  pub outputs : ArePaths s.implicit_outputs a.implicit_outputs
  pub inputs : ArePaths s.implicit_inputs a.implicit_inputs
  pub restat : s.restat ≡ a.restat

-- the additions are the statements with their paths made canonical
pub record AreCanonical (statements additions : List StatementValue) : Type 0 where
  pub count : length statements ≡ length additions
  pub each : (k : ℕ) (s a : StatementValue) → slice_get statements k ≡ Some s →
      slice_get additions k ≡ Some a → IsCanonical s a

-- the statement belongs to the edge, which produces its output
abbrev pub IsOn : StatementValue → EdgeValue → Type 0
IsOn a e = (j : ℕ) × (slice_get (made_by e) j ≡ Some a.output)

-- statement k belongs to the edge, and no other statement does
pub record IsTheOneOn (additions : List StatementValue) (e : EdgeValue) (k : ℕ)
    (a : StatementValue) : Type 0 where
  pub is : slice_get additions k ≡ Some a
  pub on : IsOn a e
  pub only : (l : ℕ) (b : StatementValue) → slice_get additions l ≡ Some b → IsOn b e → l ≡ k

-- the statement belongs to an edge that names the file
abbrev pub IsBound : List EdgeValue → PathText → StatementValue → Type 0
IsBound g name a =
    (i : ℕ) × (e : EdgeValue) × (slice_get g i ≡ Some e) × Names name e × IsOn a e

-- each statement belongs to an edge that names the file
abbrev pub AllBound : List EdgeValue → PathText → List StatementValue → Type 0
AllBound g name additions =
    (k : ℕ) (a : StatementValue) → slice_get additions k ≡ Some a → IsBound g name a

-- the edge with what a statement adds
abbrev pub extended : EdgeValue → StatementValue → EdgeValue
extended e a = record e {
  implicit_outputs = e.implicit_outputs ++ a.implicit_outputs;
  implicit_inputs = e.implicit_inputs ++ a.implicit_inputs;
  restat = e.restat || a.restat;
}

-- The new graph is the old one with what the statements add to the edges that name the file. The
-- paths of the statements are canonical.
pub record Extends (old : List EdgeValue) (name : PathText) (additions : List StatementValue)
    (new : List EdgeValue) : Type 0 where
  -- both graphs have the same number of edges
  pub same_edges : length new ≡ length old
  -- an edge that does not name the file stays as it is
  pub others : (i : ℕ) (e : EdgeValue) → slice_get old i ≡ Some e → e.dyndep ≢ Some name →
      slice_get new i ≡ Some e
  -- an edge that names the file has exactly one statement, and gains what it adds
  pub named : (i : ℕ) (e : EdgeValue) → slice_get old i ≡ Some e → Names name e →
      (k : ℕ) × (a : StatementValue) × IsTheOneOn additions e k a
      × (slice_get new i ≡ Some (extended e a))
  -- each statement belongs to such an edge
  pub bound : AllBound old name additions
  -- no file is produced twice
  pub made_once : MadeOnce new

-- the new graph is the effect of the dyndep file `name`, with these statements, on the old graph
pub record Effect (old : List EdgeValue) (name : PathText) (statements : List StatementValue)
    (new : List EdgeValue) : Type 0 where
  pub additions : List StatementValue
  pub canonical : AreCanonical statements additions
  pub gives : Extends old name additions new

-- the new graph is the effect, and no other graph is
pub record OnlyEffect (old : List EdgeValue) (name : PathText) (statements : List StatementValue)
    (new : List EdgeValue) : Type 0 where
  pub effect : Effect old name statements new
  pub only : (other : List EdgeValue) → Effect old name statements other → other ≡ new

-- no graph is the effect
abbrev pub HasNoEffect : List EdgeValue → PathText → List StatementValue → Type 0
HasNoEffect old name statements = (new : List EdgeValue) → Effect old name statements new → ⊥

-- Law: the effect of statements is what their canonical forms add to the graph.
abbrev pub EffectGives : Type 0
EffectGives =
    (g new : List EdgeValue) (name : PathText) (statements additions : List StatementValue) →
    AreCanonical statements additions → Effect g name statements new → Extends g name additions new
