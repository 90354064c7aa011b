-- Whether an edge's dyndep file is among its inputs.
use Rattle.std.specs.Prelude.{◌≡◌, ℕ, List, slice_get, Some}
use Rattle.build_effect.specs.EdgeValue.{EdgeValue}
use Rattle.build_effect.specs.Graphs.{Names, HasInput}

-- the element is in the list
abbrev pub Has : {X : Type 0} → List X → X → Type 0
Has xs x = (j : ℕ) × (slice_get xs j ≡ Some x)

-- the dyndep file that the edge names, if it names one, is among its inputs
abbrev pub NamesInput : EdgeValue → Type 0
NamesInput e = (file : List ℕ) → Names file e → HasInput e file
