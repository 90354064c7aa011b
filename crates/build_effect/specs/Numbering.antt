-- Numberings of edges which show that a graph can be ordered after the effects of dyndep files.
use Rattle.std.specs.Prelude.{◌≡◌, ◌≢◌, ℕ, ◌<◌, ◌≤◌, List, [], ◌∷◌, ◌++◌, length, slice_get, slice_index, Some, Contains}
use Rattle.std.specs.Option.{option_map_or}
use Rattle.ninja_text.specs.Bytes.{PathText}
use Rattle.dep_order.specs.Numbers.{Numbers}
use Rattle.dep_order.specs.Needs.{IsOrderable}
use Rattle.dyndep_file.specs.StatementValue.{StatementValue}
use Rattle.build_effect.specs.EdgeValue.{EdgeValue}
use Rattle.build_effect.specs.Graphs.{MakesAt, Names, EdgeNeeds}
use Rattle.build_effect.specs.Effect.{IsTheOneOn, Extends}
use Rattle.build_effect.specs.Premises.{AddsAt, AdditionNeeds, MeetsPremises}
use Rattle.build_effect.specs.Files.{NamedFile, FilesMeet, GainsExactly}

-- the edge with the outputs that a statement adds, but without its inputs
abbrev pub with_outputs : EdgeValue → StatementValue → EdgeValue
with_outputs e a = record e { implicit_outputs = e.implicit_outputs ++ a.implicit_outputs }

-- the new graph is the old one with the outputs that these files add, but without their inputs
pub record HasOutputsOnly (files : List NamedFile) (old new : List EdgeValue) : Type 0 where
  pub same_edges : length new ≡ length old
  pub named : (n : ℕ) (f : NamedFile) (i : ℕ) (e : EdgeValue) (k : ℕ) (a : StatementValue) →
      slice_get files n ≡ Some f → slice_get old i ≡ Some e → Names f.name e →
      IsTheOneOn f.additions e k a → slice_get new i ≡ Some (with_outputs e a)
  pub others : (i : ℕ) (e : EdgeValue) → slice_get old i ≡ Some e →
      ((n : ℕ) (f : NamedFile) → slice_get files n ≡ Some f → e.dyndep ≢ Some f.name) →
      slice_get new i ≡ Some e

-- A numbering of the edges of g and of h, which is g with only the outputs added. In h, what an
-- edge needs has a smaller number. In g, all edges that name the same dyndep file have the same
-- number, and the number of a later file is not smaller.
pub record IsRisingNumbering (files : List NamedFile) (g h : List EdgeValue) (ranks : Numbers)
    : Type 0 where
  pub each : length ranks ≡ length h
  pub below : (a b : ℕ) → EdgeNeeds h a b → slice_index ranks b < slice_index ranks a
  pub level : (n i j : ℕ) (f : NamedFile) (d e : EdgeValue) → slice_get files n ≡ Some f →
      slice_get g i ≡ Some d → slice_get g j ≡ Some e → Names f.name d → Names f.name e →
      slice_index ranks i ≡ slice_index ranks j
  pub rising : (n m i j : ℕ) (f l : NamedFile) (d e : EdgeValue) → n < m →
      slice_get files n ≡ Some f → slice_get files m ≡ Some l →
      slice_get g i ≡ Some d → slice_get g j ≡ Some e → Names f.name d → Names l.name e →
      slice_index ranks i ≤ slice_index ranks j

-- The same for one file: all edges that name it have the same number. Each edge that produces an
-- added input has a smaller number, unless the file also adds this input as an output.
pub record IsLevelNumbering (f : NamedFile) (g h : List EdgeValue) (ranks : Numbers) : Type 0 where
  pub each : length ranks ≡ length h
  pub below : (a b : ℕ) → EdgeNeeds h a b → slice_index ranks b < slice_index ranks a
  pub level : (i j : ℕ) (d e : EdgeValue) → slice_get g i ≡ Some d → slice_get g j ≡ Some e →
      Names f.name d → Names f.name e → slice_index ranks i ≡ slice_index ranks j
  pub linked : (k m i j l : ℕ) (a : StatementValue) (e : EdgeValue) (file : PathText) →
      slice_get f.additions k ≡ Some a → slice_get a.implicit_inputs m ≡ Some file →
      ((o p : ℕ) → AddsAt f.additions o p file → ⊥) → MakesAt h i j file →
      slice_get g l ≡ Some e → Names f.name e → slice_index ranks i < slice_index ranks l

-- Law: if there is such a numbering, and the additions can be ordered, the graph after the effect
-- can be ordered.
abbrev pub LevelOrders : Type 0
LevelOrders =
    (f : NamedFile) (g h new : List EdgeValue) (ranks : Numbers) →
    MeetsPremises g f.name f.additions →
    Extends g f.name f.additions new → HasOutputsOnly (f ∷ []) g h → IsLevelNumbering f g h ranks →
    IsOrderable (length f.additions) (AdditionNeeds f.additions) →
    IsOrderable (length new) (EdgeNeeds new)

-- the number with index k in row n
abbrev pub rank_at : List Numbers → ℕ → ℕ → ℕ
rank_at ranks n k = option_map_or (λ row. slice_index row k) (slice_get ranks n) 0

-- The additions of all dyndep files can be numbered, in one row per dyndep file. If one addition
-- adds a file as an output and another adds it as an input, the first has a smaller number and
-- belongs to the same dyndep file or to an earlier one.
pub record AreOrdered (files : List NamedFile) : Type 0 where
  pub ranks : List Numbers
  pub below : (n m k l i j : ℕ) (f d : NamedFile) (a : StatementValue) (file : PathText) →
      slice_get files n ≡ Some f → slice_get files m ≡ Some d →
      slice_get f.additions k ≡ Some a → slice_get a.implicit_inputs i ≡ Some file →
      AddsAt d.additions l j file → (m ≤ n) × (rank_at ranks m l < rank_at ranks n k)

-- If no dyndep file adds an added input as an output, the edge that produces it has a smaller
-- number than all edges that name the dyndep file which adds the input.
abbrev pub IsAboveOthers : List NamedFile → List EdgeValue → List EdgeValue → Numbers → Type 0
IsAboveOthers files g h ranks =
    (n k m i j l : ℕ) (f : NamedFile) (a : StatementValue) (e : EdgeValue) (file : PathText) →
    slice_get files n ≡ Some f → slice_get f.additions k ≡ Some a →
    slice_get a.implicit_inputs m ≡ Some file →
    ((o p q : ℕ) (d : NamedFile) → slice_get files o ≡ Some d → AddsAt d.additions p q file → ⊥) →
    MakesAt h i j file → slice_get g l ≡ Some e → Names f.name e →
    slice_index ranks i < slice_index ranks l

-- Law: if there is such a numbering, and the additions of all files can be numbered, the graph
-- after all files can be ordered, whatever the order of the files is.
abbrev pub FilesOrder : Type 0
FilesOrder =
    (files : List NamedFile) (g h new : List EdgeValue) (order ranks : Numbers) →
    FilesMeet g files → ((n : ℕ) → n < length files → Contains order n) →
    GainsExactly files g order new → HasOutputsOnly files g h →
    IsRisingNumbering files g h ranks → IsAboveOthers files g h ranks → AreOrdered files →
    IsOrderable (length new) (EdgeNeeds new)
