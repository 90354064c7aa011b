-- How far a run of units or of spaces extends.
use Rattle.std.specs.Prelude.{◌≡◌, ℕ, Bool, ◌==◌, List, drop}
use Rattle.std.specs.List.{prefix_len}
use Rattle.ninja_text.specs.Bytes.{space}
use Rattle.ninja_text.specs.Units.{units}
use Rattle.ninja_text.specs.Assignments.{after_run}
use Rattle.ninja_text.specs.declared.lexing.LineUnit.{LineUnit}

-- The longest run of units that pass the test extends from one offset to the other.
abbrev pub Run : (LineUnit → Bool) → List ℕ → ℕ → ℕ → Type 0
Run test text from to =
    after_run test from (units (drop from text))
    ≡ record { place = to; units = units (drop to text) }

-- the number of spaces at the front
abbrev pub spaces_at : List ℕ → ℕ
spaces_at bytes = prefix_len (λ b. b == space) bytes
