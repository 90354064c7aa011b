-- The arguments of the program.
use Rattle.std.specs.Prelude.{ℕ, List}

-- the bytes of an argument
abbrev pub Argument : Type 0
Argument = List ℕ

abbrev pub dash : ℕ
dash = 45
