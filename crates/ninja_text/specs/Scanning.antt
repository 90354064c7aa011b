-- How the end of a line is found byte by byte. `Lines.antt` defines it by the units of the line.
-- Here a scan state stands for the bytes so far.
use Rattle.std.specs.Prelude.{ℕ, ◌+◌, ◌-◌, ◌==◌, if◌then◌else◌, [], ◌∷◌, Option, Some, None}
use Rattle.ninja_text.specs.Bytes.{Bytes, line_feed, carriage_return, dollar, space, hash}
use Rattle.ninja_text.specs.declared.cutter.ScanState.{ScanState}
use Rattle.ninja_text.specs.declared.cutter.ScanState.TheVariants.{Start, Comment, CommentReturn, Plain, Return, Dollar, DollarReturn}
use Rattle.ninja_text.specs.declared.cutter.Scanned.{Scanned}
use Rattle.ninja_text.specs.declared.cutter.Scanned.TheVariants.{End, Open}

-- the state after a byte that begins a unit; None if the byte ends the line
abbrev pub plain_step : ℕ → Option ScanState
plain_step b =
    if b == line_feed then None
    else if b == carriage_return then Some Return
    else if b == dollar then Some Dollar
    else Some Plain

-- the state after a byte of a comment; None if the byte ends the line
abbrev pub comment_step : ℕ → Option ScanState
comment_step b =
    if b == line_feed then None
    else if b == carriage_return then Some CommentReturn
    else Some Comment

-- the state after a byte, given the state before it; None if the byte ends the line
abbrev pub step_of : ScanState → ℕ → Option ScanState
step_of Start b =
    if b == space then Some Start
    else if b == hash then Some Comment
    else plain_step b
step_of Comment b = comment_step b
step_of CommentReturn b = comment_step b
step_of Plain b = plain_step b
step_of Return b = plain_step b
step_of Dollar b = if b == carriage_return then Some DollarReturn else Some Plain
step_of DollarReturn b = if b == line_feed then Some Plain else plain_step b

-- the end of a line whose LF has this offset; a CR directly before the LF belongs to the end
abbrev pub scan_end : ℕ → ScanState → Scanned
scan_end index Return = End (index - 1) (index + 1)
scan_end index CommentReturn = End (index - 1) (index + 1)
scan_end index Start = End index (index + 1)
scan_end index Comment = End index (index + 1)
scan_end index Plain = End index (index + 1)
scan_end index Dollar = End index (index + 1)
scan_end index DollarReturn = End index (index + 1)

-- continues in the next state, or ends if there is none
abbrev pub goes_on_from : Scanned → (ScanState → Scanned) → Option ScanState → Scanned
goes_on_from ended later None = ended
goes_on_from ended later (Some next) = later next

-- the result of scanning bytes that begin at this offset of the line: its end, or the last state
abbrev pub scan_from : ℕ → ScanState → Bytes → Scanned
scan_from index state [] = Open state
scan_from index state (b ∷ bytes) =
    goes_on_from (scan_end index state) (λ next. scan_from (index + 1) next bytes) (step_of state b)
