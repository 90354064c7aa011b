-- Statements that passed all checks.
use Rattle.std.specs.Prelude.{◌≡◌, ℕ, List, length, slice_get, Option, Some}
use Rattle.dyndep_file.specs.StatementValue.{StatementValue}
use Rattle.build_effect.specs.EdgeValue.{EdgeValue}
use Rattle.build_effect.specs.Effect.{AreCanonical, AllBound}
use Rattle.build_effect.specs.Faults.{NoneRepeated, AllMentioned, NoneMadeBefore, IsEffectFault}
use Rattle.build_effect.specs.inner.StatementEdges.{statement_on, IsBoundTo, HaveStatements}
use Rattle.build_effect.specs.declared.fault.EffectFault.{EffectFault}

-- Each statement belongs to an edge that names the file, each such edge has exactly one statement,
-- and `statement_of` has the statement of each edge.
pub record AreMatched (g : List EdgeValue) (name : List ℕ) (additions : List StatementValue)
    (statement_of : List (Option ℕ)) : Type 0 where
  pub bound : AllBound g name additions
  pub single : NoneRepeated g additions
  pub mentioned : AllMentioned g name additions
  pub as_many : length statement_of ≡ length g
  pub on : (i k : ℕ) → statement_on statement_of i ≡ Some k →
      (a : StatementValue) × (slice_get additions k ≡ Some a) × IsBoundTo g name a i
  pub have : HaveStatements g name statement_of

-- The statements have no error, and `statement_of` has the statement of each edge.
pub record AreChecked (g : List EdgeValue) (name : List ℕ)
    (statements additions : List StatementValue) (statement_of : List (Option ℕ)) : Type 0 where
  pub canonical : AreCanonical statements additions
  pub matched : AreMatched g name additions statement_of
  pub fresh : NoneMadeBefore g additions

-- the error of statements whose canonical forms are these additions
abbrev pub IsFaultOf : List EdgeValue → List ℕ → List StatementValue → EffectFault → Type 0
IsFaultOf g name additions fault =
    (statements : List StatementValue) → AreCanonical statements additions →
    IsEffectFault g name statements fault
