-- The premises under which a dyndep file has exactly one effect.
use Rattle.std.specs.Prelude.{◌≡◌, ℕ, List, map, slice_get, Some}
use Rattle.ninja_text.specs.Bytes.{PathText}
use Rattle.dyndep_file.specs.StatementValue.{StatementValue}
use Rattle.build_effect.specs.EdgeValue.{EdgeValue}
use Rattle.build_effect.specs.Graphs.{Makes, MadeOnce, Names, IsMade}
use Rattle.build_effect.specs.Effect.{AreCanonical, OnlyEffect, Extends}

-- addition k adds the file as an output, at index m of its implicit outputs
abbrev pub AddsAt : List StatementValue → ℕ → ℕ → PathText → Type 0
AddsAt additions k m file =
    (a : StatementValue) × (slice_get additions k ≡ Some a)
    × (slice_get a.implicit_outputs m ≡ Some file)

-- no output is added twice
abbrev pub AddedOnce : List StatementValue → Type 0
AddedOnce additions =
    (k m l n : ℕ) (file : PathText) → AddsAt additions k m file → AddsAt additions l n file →
    (k ≡ l) × (m ≡ n)

-- The edges that name the file correspond one to one to the objects, and each edge produces its
-- object.
pub record NamesExactly (g : List EdgeValue) (name : PathText) (objects : List PathText)
    : Type 0 where
  -- each edge that names the file produces exactly one of the objects
  pub one_object : (i : ℕ) (e : EdgeValue) → slice_get g i ≡ Some e → Names name e →
      (o : ℕ) × (object : PathText) × (slice_get objects o ≡ Some object) × Makes e object
      × ((p : ℕ) (other : PathText) → slice_get objects p ≡ Some other → Makes e other → p ≡ o)
  -- each object is produced by an edge that names the file
  pub bound : (o : ℕ) (object : PathText) → slice_get objects o ≡ Some object →
      (i : ℕ) × (e : EdgeValue) × (slice_get g i ≡ Some e) × Names name e × Makes e object

-- The premises on a graph: no file is produced twice, exactly the edges of the additions' outputs
-- name the file, and no edge produces an added output.
pub record MeetsPremises (g : List EdgeValue) (name : PathText) (additions : List StatementValue)
    : Type 0 where
  pub made_once : MadeOnce g
  pub names : NamesExactly g name (map (λ a. a.output) additions)
  pub fresh : (k m : ℕ) (file : PathText) → AddsAt additions k m file → IsMade g file → ⊥

-- addition a needs addition b: a adds an input that b adds as an output
abbrev pub AdditionNeeds : List StatementValue → ℕ → ℕ → Type 0
AdditionNeeds additions a b =
    (x : StatementValue) × (y : StatementValue) × (file : PathText) × (i : ℕ) × (j : ℕ)
    × (slice_get additions a ≡ Some x) × (slice_get additions b ≡ Some y)
    × (slice_get x.implicit_inputs i ≡ Some file) × (slice_get y.implicit_outputs j ≡ Some file)

-- Law: on every graph that meets the premises, statements that add no output twice have exactly one
-- effect.
abbrev pub OneEffect : Type 0
OneEffect =
    (g : List EdgeValue) (name : PathText) (statements additions : List StatementValue) →
    AreCanonical statements additions → AddedOnce additions → MeetsPremises g name additions →
    (new : List EdgeValue) × Extends g name additions new × OnlyEffect g name statements new
