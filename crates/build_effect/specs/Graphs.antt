-- What edges produce, read and name, and which lists of edges are graphs.
use Rattle.std.specs.Prelude.{◌≡◌, ◌≢◌, ℕ, List, [], ◌++◌, slice_get, Some}
use Rattle.ninja_text.specs.Bytes.{PathText}
use Rattle.build_effect.specs.EdgeValue.{EdgeValue}

-- the files that an edge produces: its outputs, then its implicit outputs
abbrev pub made_by : EdgeValue → List PathText
made_by e = e.outputs ++ e.implicit_outputs

-- all inputs of an edge: explicit, implicit and order-only
abbrev pub inputs_of : EdgeValue → List PathText
inputs_of e = e.inputs ++ (e.implicit_inputs ++ e.order_only)

-- the edge produces the file
abbrev pub Makes : EdgeValue → PathText → Type 0
Makes e file = (j : ℕ) × (slice_get (made_by e) j ≡ Some file)

-- the file is an input of the edge, of any kind
abbrev pub HasInput : EdgeValue → PathText → Type 0
HasInput e file = (j : ℕ) × (slice_get (inputs_of e) j ≡ Some file)

-- the edge's dyndep binding names the file
abbrev pub Names : PathText → EdgeValue → Type 0
Names file e = e.dyndep ≡ Some file

-- edge i produces the file, at index j of the files that it produces
abbrev pub MakesAt : List EdgeValue → ℕ → ℕ → PathText → Type 0
MakesAt g i j file =
    (e : EdgeValue) × (slice_get g i ≡ Some e) × (slice_get (made_by e) j ≡ Some file)

-- some edge produces the file
abbrev pub IsMade : List EdgeValue → PathText → Type 0
IsMade g file = (i : ℕ) × (j : ℕ) × MakesAt g i j file

-- no file is produced twice, by two edges or by one
abbrev pub MadeOnce : List EdgeValue → Type 0
MadeOnce g =
    (i j k l : ℕ) (file : PathText) → MakesAt g i j file → MakesAt g k l file → (i ≡ k) × (j ≡ l)

-- each edge has the dyndep file that it names among its inputs
abbrev pub DyndepsAreInputs : List EdgeValue → Type 0
DyndepsAreInputs g =
    (i : ℕ) (e : EdgeValue) (file : PathText) → slice_get g i ≡ Some e → Names file e →
    HasInput e file

-- The invariant of graphs: each edge has an explicit output, no file is produced twice, and each
-- edge has the dyndep file that it names among its inputs.
pub record IsGraph (g : List EdgeValue) : Type 0 where
  pub outputs : (i : ℕ) (e : EdgeValue) → slice_get g i ≡ Some e → e.outputs ≢ []
  pub made_once : MadeOnce g
  pub dyndep_is_input : DyndepsAreInputs g

-- edge a needs edge b, which produces one of its inputs
abbrev pub EdgeNeeds : List EdgeValue → ℕ → ℕ → Type 0
EdgeNeeds g a b =
    (e : EdgeValue) × (file : PathText) × (j : ℕ) × (slice_get g a ≡ Some e) × HasInput e file
    × MakesAt g b j file
