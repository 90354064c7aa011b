-- Short names for the types in these proofs.
use Rattle.dep_order.specs.Prelude.{ℕ, List, Option, Bor}
pub use Rattle.dep_order.specs.Numbers.{Numbers}

-- which things need which
abbrev pub Relation : Type 1
Relation = ℕ → ℕ → Type 0

-- a digraph: what each node needs
abbrev pub Graph : Type 0
Graph = List Numbers

-- a number for some of the nodes
abbrev pub Marks : Type 0
Marks = List (Option ℕ)

-- the rows of a digraph, as slices
abbrev pub Slice : Type 0
Slice = Bor Numbers

abbrev pub Slices : Type 0
Slices = List Slice
