-- How far the current line extends into a piece.
use Rattle.std.specs.Prelude.{◌≡◌, ℕ, ◌+◌, ◌<◌, ◌≤◌, List, ◌++◌, length, take, Option, Some, None}
use Rattle.ninja_text.specs.Lines.{line_limit, LineEnd, line_end}
use Rattle.ninja_text.specs.Phases.{PhaseFits}
use Rattle.ninja_text.specs.declared.cutter.Phase.{Phase}
use Rattle.ninja_text.specs.declared.cutter.Phase.TheVariants.{Gathering, Waiting, Lent, Failed}

-- the end of the line that begins in the buffer and continues in a piece, if it is within the limit
abbrev pub end_within : List ℕ → List ℕ → Option LineEnd
end_within bytes piece = line_end (take line_limit (bytes ++ piece))

-- The phase after the line took these bytes of the piece. If it ends there, it waits. Otherwise it
-- took the whole piece, has no end within the limit, and is still gathered.
abbrev pub EndsBy : List ℕ → List ℕ → ℕ → Phase → Type 0
EndsBy bytes piece taken (Waiting text_len) =
    end_within bytes piece ≡ Some (record { text_len = text_len; line_len = length bytes + taken })
EndsBy bytes piece taken (Gathering next) =
    (taken ≡ length piece) × (end_within bytes piece ≡ None)
EndsBy bytes piece taken Lent = ⊥
EndsBy bytes piece taken Failed = ⊥

-- the line takes this number of bytes of the piece, and the cutter is then in this phase
abbrev pub Takes : List ℕ → List ℕ → ℕ → Phase → Type 0
Takes bytes piece taken phase =
    (taken ≤ length piece) × (0 < length piece → 0 < taken) × (length bytes + taken ≤ line_limit)
    × PhaseFits phase (bytes ++ take taken piece) × EndsBy bytes piece taken phase

-- how far the line extends into a piece: to a line end within the limit, to the end of the piece,
-- or beyond the limit (None)
abbrev pub Reaches : List ℕ → List ℕ → Option (ℕ × Phase) → Type 0
Reaches bytes piece (Some reach) = Takes bytes piece reach.0 reach.1
Reaches bytes piece None =
    (line_limit ≤ length bytes + length piece) × (end_within bytes piece ≡ None)
