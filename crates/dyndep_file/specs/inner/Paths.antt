-- The bytes of lists of paths.
use Rattle.std.specs.Prelude.{ℕ, List, map, Vec}
use Rattle.std.specs.Borrow.{Bor}
use Rattle.std.specs.declared.alloc.Global.{Global}

-- the bytes of the paths
abbrev pub texts : List (Vec ℕ Global) → List (List ℕ)
texts paths = map (λ path. path.items) paths

-- the bytes of borrowed paths
abbrev pub lent_texts : List (Bor (List ℕ)) → List (List ℕ)
lent_texts paths = map (λ path. path.now) paths
