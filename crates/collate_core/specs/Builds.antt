-- What the edges of a build wait for. They wait for each producer that they have to wait for, so
-- there is no race. They wait for nothing else, so there is no false wait, rebuild or cycle.
use Rattle.std.specs.Prelude.{◌≡◌, ◌↔◌, ◌⊎◌, ℕ, ◌<◌, List, [], ◌∷◌, length, map, take, slice_get, Some, Contains}
use Rattle.ninja_text.specs.Bytes.{PathText, Name}
use Rattle.dep_order.specs.Numbers.{Numbers}
use Rattle.dep_order.specs.Needs.{IsChain, IsOrderable}
use Rattle.dep_order.specs.Cycles.{IsCycle}
use Rattle.document_values.specs.Rule.{RuleValue}
use Rattle.build_effect.specs.EdgeValue.{EdgeValue}
use Rattle.build_effect.specs.Graphs.{HasInput, MakesAt, EdgeNeeds}
use Rattle.module_table.specs.TableValue.{TableValue}
use Rattle.module_table.specs.Modules.{Provides, Requires, IsProvided}

-- ---- objects, their modules, and the edges that produce them

-- edge i produces the file
abbrev pub IsMaker : List EdgeValue → ℕ → PathText → Type 0
IsMaker g i file = (j : ℕ) × MakesAt g i j file

-- the file is an input of edge i
abbrev pub IsReader : List EdgeValue → ℕ → PathText → Type 0
IsReader g i file = (e : EdgeValue) × (slice_get g i ≡ Some e) × HasInput e file

-- edge i produces object o
abbrev pub IsEdgeOf : List EdgeValue → ℕ → TableValue → ℕ → Type 0
IsEdgeOf g i t o =
    (rule : RuleValue) × (slice_get t.objects o ≡ Some rule) × IsMaker g i rule.object

-- edge i produces an object that requires a module, and the file is the module's BMI
abbrev pub RequiresFile : List TableValue → List EdgeValue → ℕ → PathText → Type 0
RequiresFile tables g i file =
    (t : TableValue) × (o : ℕ) × (name : Name) × Contains tables t × IsEdgeOf g i t o
    × Requires t o name × IsProvided t name file

-- edge i produces an object that provides a module, and the file is the module's BMI
abbrev pub ProvidesFile : List TableValue → List EdgeValue → ℕ → PathText → Type 0
ProvidesFile tables g i file =
    (t : TableValue) × (o : ℕ) × (j : ℕ) × (name : Name) × Contains tables t × IsEdgeOf g i t o
    × Provides t o j name file

-- ---- no race

-- in the order, the other edge comes before edge i
abbrev pub ComesAfter : Numbers → ℕ → ℕ → Type 0
ComesAfter order i other =
    (p : ℕ) → slice_get order p ≡ Some i → Contains (take p order) other

-- The edges can run in this order: it has each edge once, after the producers of its inputs of all
-- kinds.
pub record IsRunOrder (g : List EdgeValue) (order : Numbers) : Type 0 where
  pub as_many : length order ≡ length g
  pub all : (i : ℕ) → i < length g → Contains order i
  pub after_makers : (i maker : ℕ) → EdgeNeeds g i maker → ComesAfter order i maker

-- There is no race. `g` is the graph before the dyndep files of these tables, and `new` the one
-- after.
pub record HasNoRace (tables : List TableValue) (g new : List EdgeValue) : Type 0 where
  -- the edge of an object produces the BMI of each module that the object provides
  pub made : (t : TableValue) (o j : ℕ) (name : Name) (file : PathText) → Contains tables t →
      Provides t o j name file → (i : ℕ) × IsEdgeOf g i t o × IsMaker new i file
  -- in every order in which the edges can run, the edge of an object comes after the edge that
  -- produces the BMI of each module that the object requires, wherever in the graph that edge is
  pub after_makers : (order : Numbers) (i maker : ℕ) (file : PathText) → IsRunOrder new order →
      RequiresFile tables g i file → IsMaker new maker file → ComesAfter order i maker

-- ---- imports

-- Edge i imports from another edge, through a BMI.
pub data Imports (tables : List TableValue) (g new : List EdgeValue) (i maker : ℕ) : Type 0 where
  -- the object of edge i requires a module, and the other edge produces the BMI
  required : {file : PathText} → RequiresFile tables g i file → IsMaker new maker file →
      Imports tables g new i maker
  -- edge i lists a BMI as an input of its own, and the object of the other edge provides the module
  listed : {file : PathText} → IsReader g i file → ProvidesFile tables g maker file →
      Imports tables g new i maker

-- Edge i has a reason to need another edge: it needed that edge before, or imports from it.
abbrev pub HasReason : List TableValue → List EdgeValue → List EdgeValue → ℕ → ℕ → Type 0
HasReason tables g new i maker = EdgeNeeds g i maker ⊎ Imports tables g new i maker

-- ---- no false wait

-- There is no false wait: after the effect, an edge needs exactly the edges for which it has a
-- reason.
abbrev pub HasNoFalseWait : List TableValue → List EdgeValue → List EdgeValue → Type 0
HasNoFalseWait tables g new =
    (i maker : ℕ) → EdgeNeeds new i maker ↔ HasReason tables g new i maker

-- ---- no false rebuild

-- a chain leads from edge i to another edge: each edge of the chain needs the next
abbrev pub HasChain : (ℕ → ℕ → Type 0) → ℕ → ℕ → Type 0
HasChain Needs i other = (between : Numbers) × IsChain Needs (i ∷ between) other

-- after the effect, a chain of needs leads from one edge to another if and only if a chain of
-- earlier needs and of imports does
abbrev pub HasSameChains : List TableValue → List EdgeValue → List EdgeValue → Type 0
HasSameChains tables g new =
    (i other : ℕ) → HasChain (EdgeNeeds new) i other ↔ HasChain (HasReason tables g new) i other

-- the edge without its order-only inputs
abbrev pub without_order_only : EdgeValue → EdgeValue
without_order_only e = record e { order_only = [] }

-- the graph without order-only inputs, which do not make Ninja run an edge again
abbrev pub rebuild_graph : List EdgeValue → List EdgeValue
rebuild_graph g = map without_order_only g

-- There is no false rebuild: Ninja runs an edge again only because of a chain of earlier needs and
-- of imports.
pub record HasNoFalseRebuild (tables : List TableValue) (g new : List EdgeValue) : Type 0 where
  -- an edge waits for what it waited for, and for what it imports, directly or through others
  pub waits : HasSameChains tables g new
  -- the same holds without order-only inputs, which make no edge run again
  pub rebuilds : HasSameChains tables (rebuild_graph g) (rebuild_graph new)

-- ---- no false cycle

-- There is no false cycle.
pub record HasNoFalseCycle (tables : List TableValue) (g new : List EdgeValue) : Type 0 where
  -- each step of a cycle after the effect, and so of the least cycle, was a need before or is an
  -- import
  pub steps : (cycle : Numbers) → IsCycle (EdgeNeeds new) cycle →
      IsCycle (HasReason tables g new) cycle
  -- if earlier needs and imports have no cycle, the edges can be ordered
  pub none : ((cycle : Numbers) → IsCycle (HasReason tables g new) cycle → ⊥) →
      IsOrderable (length new) (EdgeNeeds new)
