-- The effects of several dyndep files, one after the other.
use Rattle.std.specs.Prelude.{◌≡◌, ◌≢◌, ℕ, ◌<◌, List, [], ◌∷◌, length, slice_get, Some}
use Rattle.ninja_text.specs.Bytes.{PathText}
use Rattle.dep_order.specs.Numbers.{Numbers}
use Rattle.dyndep_file.specs.StatementValue.{StatementValue}
use Rattle.build_effect.specs.EdgeValue.{EdgeValue}
use Rattle.build_effect.specs.Graphs.{Names}
use Rattle.build_effect.specs.Effect.{AreCanonical, IsTheOneOn, OnlyEffect, extended}
use Rattle.build_effect.specs.Premises.{AddsAt, AddedOnce, MeetsPremises}

-- a dyndep file: its name, its statements, and the statements with canonical paths
pub record NamedFile : Type 0 where
  pub name : PathText
  pub statements : List StatementValue
  pub additions : List StatementValue

-- the additions of each file are its statements with canonical paths, and add no output twice
pub record AreFiles (files : List NamedFile) : Type 0 where
  pub canonical : (n : ℕ) (f : NamedFile) → slice_get files n ≡ Some f →
      AreCanonical f.statements f.additions
  pub added_once : (n : ℕ) (f : NamedFile) → slice_get files n ≡ Some f → AddedOnce f.additions

-- the graph meets the premises of each file, the names of the files differ, and no two add the same
-- output
pub record FilesMeet (g : List EdgeValue) (files : List NamedFile) : Type 0 where
  pub each : (n : ℕ) (f : NamedFile) → slice_get files n ≡ Some f →
      MeetsPremises g f.name f.additions
  pub names_differ : (n m : ℕ) (f h : NamedFile) → slice_get files n ≡ Some f →
      slice_get files m ≡ Some h → f.name ≡ h.name → n ≡ m
  pub added_apart : (n m k l i j : ℕ) (f h : NamedFile) (file : PathText) →
      slice_get files n ≡ Some f → slice_get files m ≡ Some h →
      AddsAt f.additions k i file → AddsAt h.additions l j file → n ≡ m

-- The files with these indexes, applied one after the other, lead from the old graph to the new
-- one. Each has exactly one effect.
abbrev pub Applies : List NamedFile → List EdgeValue → Numbers → List EdgeValue → Type 0
Applies files old [] new = new ≡ old
Applies files old (n ∷ order) new =
    (f : NamedFile) × (mid : List EdgeValue) × (slice_get files n ≡ Some f)
    × OnlyEffect old f.name f.statements mid × Applies files mid order new

-- Each edge that names one of these files has gained exactly what its one statement adds. Every
-- other edge stays as it is.
pub record GainsExactly (files : List NamedFile) (old : List EdgeValue) (order : Numbers)
    (new : List EdgeValue) : Type 0 where
  pub same_edges : length new ≡ length old
  pub named : (p n : ℕ) (f : NamedFile) (i : ℕ) (e : EdgeValue) → slice_get order p ≡ Some n →
      slice_get files n ≡ Some f → slice_get old i ≡ Some e → Names f.name e →
      (k : ℕ) × (a : StatementValue) × IsTheOneOn f.additions e k a
      × (slice_get new i ≡ Some (extended e a))
  pub others : (i : ℕ) (e : EdgeValue) → slice_get old i ≡ Some e →
      ((p n : ℕ) (f : NamedFile) → slice_get order p ≡ Some n → slice_get files n ≡ Some f →
      e.dyndep ≢ Some f.name) →
      slice_get new i ≡ Some e

-- these are indexes of files, and all are different
pub record AreFileIndices (files : List NamedFile) (order : Numbers) : Type 0 where
  pub within : (p n : ℕ) → slice_get order p ≡ Some n → n < length files
  pub differ : (p q n : ℕ) → slice_get order p ≡ Some n → slice_get order q ≡ Some n → p ≡ q

-- Law: the files may be applied in any order, and each edge gains exactly what its statement adds.
abbrev pub AnyOrder : Type 0
AnyOrder =
    (files : List NamedFile) (g : List EdgeValue) (order : Numbers) →
    AreFiles files → FilesMeet g files → AreFileIndices files order →
    (new : List EdgeValue) × Applies files g order new × GainsExactly files g order new

-- both orders have the same files
abbrev pub SameFiles : Numbers → Numbers → Type 0
SameFiles order other =
    ((p n : ℕ) → slice_get order p ≡ Some n → (q : ℕ) × (slice_get other q ≡ Some n))
    × ((p n : ℕ) → slice_get other p ≡ Some n → (q : ℕ) × (slice_get order q ≡ Some n))

-- Law: all orders of the same files lead to the same graph.
abbrev pub OrdersEndAlike : Type 0
OrdersEndAlike =
    (files : List NamedFile) (g : List EdgeValue) (order other : Numbers)
    (new end : List EdgeValue) →
    AreFiles files → FilesMeet g files → AreFileIndices files order → AreFileIndices files other →
    SameFiles order other → Applies files g order new → Applies files g other end → new ≡ end
