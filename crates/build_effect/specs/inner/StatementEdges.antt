-- Which statement belongs to which edge.
use Rattle.std.specs.Prelude.{◌≡◌, ℕ, List, length, slice_get, slice_index_or, Option, Some, None}
use Rattle.dyndep_file.specs.StatementValue.{StatementValue}
use Rattle.build_effect.specs.EdgeValue.{EdgeValue}
use Rattle.build_effect.specs.Graphs.{Makes, Names}
use Rattle.build_effect.specs.Effect.{IsOn, IsBound}
use Rattle.ninja_text.specs.Firsts.{IsFirst, IsFirstAt}
use Rattle.ninja_text.specs.Firsts.{RepeatsFirst}
use Rattle.build_effect.specs.declared.fault.EffectFault.{EffectFault}
use Rattle.build_effect.specs.declared.fault.EffectFault.TheVariants.{NotBound, StatementTwice, NotMentioned}

-- the statement belongs to edge i, which names the file
abbrev pub IsBoundTo : List EdgeValue → List ℕ → StatementValue → ℕ → Type 0
IsBoundTo g name a i = (e : EdgeValue) × (slice_get g i ≡ Some e) × Names name e × IsOn a e

-- edge i, which names the file, produces the output
abbrev pub IsBoundOutput : List EdgeValue → List ℕ → List ℕ → ℕ → Type 0
IsBoundOutput g name output i =
    (e : EdgeValue) × (slice_get g i ≡ Some e) × Names name e × Makes e output

-- no edge that names the file produces the output
abbrev pub IsUnboundOutput : List EdgeValue → List ℕ → List ℕ → Type 0
IsUnboundOutput g name output = (i : ℕ) → IsBoundOutput g name output i → ⊥

-- `edge_of` has the edge of each statement
pub record AreEdgesOf (g : List EdgeValue) (name : List ℕ) (additions : List StatementValue)
    (edge_of : List ℕ) : Type 0 where
  pub count : length edge_of ≡ length additions
  pub each : (k : ℕ) (a : StatementValue) (i : ℕ) → slice_get additions k ≡ Some a →
      slice_get edge_of k ≡ Some i → IsBoundTo g name a i

-- the error reports the first statement that belongs to no edge that names the file
abbrev pub IsFirstUnbound : List EdgeValue → List ℕ → List StatementValue → EffectFault → Type 0
IsFirstUnbound g name additions fault =
    (k : ℕ) × (a : StatementValue) × IsFirst (λ a. IsBound g name a → ⊥) additions k a
    × (fault ≡ NotBound a.output)

-- the statement of edge i, if there is one
abbrev pub statement_on : List (Option ℕ) → ℕ → Option ℕ
statement_on statement_of i = slice_index_or statement_of i None

-- k is the statement of edge i if and only if i is the edge of statement k
pub record AreInverse (count : ℕ) (edge_of : List ℕ) (statement_of : List (Option ℕ)) : Type 0 where
  pub as_many : length statement_of ≡ count
  pub from : (i k : ℕ) → statement_on statement_of i ≡ Some k → slice_get edge_of k ≡ Some i
  pub to : (k i : ℕ) → slice_get edge_of k ≡ Some i → statement_on statement_of i ≡ Some k

-- the error reports the first statement that belongs to the edge of an earlier one
abbrev pub IsFirstRepeated : List ℕ → List StatementValue → EffectFault → Type 0
IsFirstRepeated edge_of additions fault =
    (j : ℕ) × (k : ℕ) × (a : StatementValue) × RepeatsFirst edge_of j k
    × (slice_get additions k ≡ Some a) × (fault ≡ StatementTwice a.output)

-- each edge that names the file has a statement
abbrev pub HaveStatements : List EdgeValue → List ℕ → List (Option ℕ) → Type 0
HaveStatements g name statement_of =
    (i : ℕ) (e : EdgeValue) → slice_get g i ≡ Some e → Names name e →
    (k : ℕ) × (statement_on statement_of i ≡ Some k)

-- the error reports the first edge that names the file and has no statement
abbrev pub IsFirstUnmentioned : List EdgeValue → List ℕ → List (Option ℕ) → EffectFault → Type 0
IsFirstUnmentioned g name statement_of fault =
    (i : ℕ) × (e : EdgeValue) × (output : List ℕ)
    × IsFirstAt (λ i e. Names name e × (statement_on statement_of i ≡ None)) g i e
    × (slice_get e.outputs 0 ≡ Some output) × (fault ≡ NotMentioned output)
