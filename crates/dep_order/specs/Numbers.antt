-- A list of numbers: things, which are numbered from 0, or one number for each thing.
use Rattle.std.specs.Prelude.{ℕ, List}

abbrev pub Numbers : Type 0
Numbers = List ℕ
