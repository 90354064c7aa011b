-- Vectors and slices of numbers as lists of lists.
use Rattle.std.specs.Prelude.{ℕ, List, map, Vec}
use Rattle.std.specs.Borrow.{Bor}
use Rattle.std.specs.declared.alloc.Global.{Global}
use Rattle.dep_order.specs.Numbers.{Numbers}

-- the lists that these vectors hold
abbrev pub rows : List (Vec ℕ Global) → List Numbers
rows vectors = map (λ row. row.items) vectors

-- the lists that these slices are
abbrev pub lists : List (Bor Numbers) → List Numbers
lists slices = map (λ slice. slice.now) slices
