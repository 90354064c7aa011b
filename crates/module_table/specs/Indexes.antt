-- A list of indexes, of info files or of the links to them.
use Rattle.std.specs.Prelude.{ℕ, List}

abbrev pub Indexes : Type 0
Indexes = List ℕ
