-- Edges with what their statements add.
use Rattle.std.specs.Prelude.{◌≡◌, ℕ, List, length, slice_get, Option, Some, None}
use Rattle.dyndep_file.specs.StatementValue.{StatementValue}
use Rattle.build_effect.specs.EdgeValue.{EdgeValue}
use Rattle.build_effect.specs.Effect.{extended}
use Rattle.build_effect.specs.inner.StatementEdges.{statement_on}

-- the edge as it is, or with what the statement at this index adds
abbrev pub IsEdgeAfter : EdgeValue → List StatementValue → Option ℕ → EdgeValue → Type 0
IsEdgeAfter e additions None new = new ≡ e
IsEdgeAfter e additions (Some k) new =
    (a : StatementValue) → slice_get additions k ≡ Some a → new ≡ extended e a

-- each edge with what its statement adds; an edge without a statement stays as it is
pub record AreExtended (old : List EdgeValue) (additions : List StatementValue)
    (statement_of : List (Option ℕ)) (new : List EdgeValue) : Type 0 where
  pub as_many : length new ≡ length old
  pub plain : (i : ℕ) (e : EdgeValue) → slice_get old i ≡ Some e →
      statement_on statement_of i ≡ None → slice_get new i ≡ Some e
  pub more : (i k : ℕ) (e : EdgeValue) (a : StatementValue) → slice_get old i ≡ Some e →
      statement_on statement_of i ≡ Some k → slice_get additions k ≡ Some a →
      slice_get new i ≡ Some (extended e a)
