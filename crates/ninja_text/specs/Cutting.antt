-- The state of a cutter of lines, what its calls return and do to the state, and how the state
-- follows from all bytes taken and all lines returned.
use Rattle.std.specs.Prelude.{◌≡◌, ℕ, ◌+◌, ◌-◌, ◌≤◌, Bool, true, false, nat_le, if◌then◌else◌, min, List, [], ◌∷◌, ◌++◌, length, take, Option, Some, None, Result, Ok, Err}
use Rattle.std.specs.List.{flat_map, AllByRecursion}
use Rattle.ninja_text.specs.Bytes.{Bytes, Text}
use Rattle.ninja_text.specs.Lines.{line_limit, LineEnd, line_end, text_of_line, is_comment, Divides, LogicalLine, logical_lines, number_after, line_feeds_in}
use Rattle.ninja_text.specs.declared.failure.Failure.{Failure}
use Rattle.ninja_text.specs.declared.failure.Failure.TheVariants.{Memory, Fault}
use Rattle.ninja_text.specs.declared.fault.CutFault.{CutFault}
use Rattle.ninja_text.specs.declared.fault.CutFault.TheVariants.{LineTooLong, Truncated}

-- The current line: its number and its bytes so far. If `waits` is true, the line is complete and
-- waits to be returned. If `failed` is true, the line is too long, and no more lines are returned.
pub record CutterState : Type 0 where
  pub number : ℕ
  pub bytes : Bytes
  pub waits : Bool
  pub failed : Bool

abbrev pub new_cutter : CutterState
new_cutter = record { number = 1; bytes = []; waits = false; failed = false }

-- the line that waits
abbrev pub waiting_line : CutterState → LogicalLine
waiting_line h =
    record { text = text_of_line h.bytes; number = h.number; comment = is_comment h.bytes }

-- the result of `feed` and the state after it if no line waits, given the first line end within the
-- limit
abbrev pub feed_outcome_at : CutterState → Bytes → Option LineEnd → Result ℕ CutFault × CutterState
feed_outcome_at h piece (Some end) = (
  Ok (end.line_len - length h.bytes),
  record h { bytes = take end.line_len (h.bytes ++ piece); waits = true },
)
feed_outcome_at h piece None =
    if nat_le line_limit (length (h.bytes ++ piece)) then
    (Err (LineTooLong h.number), record h { failed = true })
    else (Ok (length piece), record h { bytes = h.bytes ++ piece })

-- the result of `feed` and the state after it, if no allocation fails
abbrev pub feed_outcome : CutterState → Bytes → Result ℕ CutFault × CutterState
feed_outcome h piece =
    if h.failed then (Err (LineTooLong h.number), h)
    else if h.waits then (Ok 0, h)
    else feed_outcome_at h piece (line_end (take line_limit (h.bytes ++ piece)))

-- `feed` has this outcome, unless an allocation fails. In that case it took nothing and the state
-- is unchanged. It allocates only if the cutter has not failed and no line waits.
abbrev pub Feeds : CutterState → Bytes → Result ℕ (Failure CutFault) → CutterState → Type 0
Feeds old piece (Ok n) new = feed_outcome old piece ≡ (Ok n, new)
Feeds old piece (Err Memory) new = (old.failed ≡ false) × (old.waits ≡ false) × (new ≡ old)
Feeds old piece (Err (Fault fault)) new = feed_outcome old piece ≡ (Err fault, new)

-- the state after the line that waits, if there is one, was returned
abbrev pub after_lending : CutterState → CutterState
after_lending h =
    if h.failed then h
    else if h.waits then record {
      number = min 18446744073709551615 (h.number + line_feeds_in h.bytes);
      bytes = [];
      waits = false;
      failed = false;
    }
    else h

-- the line that `next_line` returns, if any, as a list
abbrev pub lent_next : CutterState → List LogicalLine
lent_next h = if h.failed then [] else if h.waits then waiting_line h ∷ [] else []

-- What `finish` returns: `LineTooLong` if the cutter has failed, otherwise `Truncated` if bytes are
-- left.
abbrev pub Finishes : CutterState → Result Unit CutFault → Type 0
Finishes h r =
    r ≡ (if h.failed then Err (LineTooLong h.number)
    else if nat_le (length h.bytes) 0 then Ok tt
    else Err (Truncated h.number))

-- the bytes of the line that waits, if there is one, as a list
abbrev pub waiting_bytes : CutterState → List Bytes
waiting_bytes h = if h.waits then h.bytes ∷ [] else []

-- the bytes so far of a line that is not complete
abbrev pub rest_bytes : CutterState → Bytes
rest_bytes h = if h.waits then [] else h.bytes

-- The bytes taken are the lines returned (`lent`), the line that waits, and the beginning of the
-- next line. No line is longer than the limit.
pub record Cuts (taken : Bytes) (lent : List LogicalLine) (h : CutterState) : Type 0 where
  pub lines : List Text
  pub divided : Divides taken (lines ++ waiting_bytes h) (rest_bytes h)
  pub short : AllByRecursion (λ line. length line ≤ line_limit) (lines ++ waiting_bytes h)
  pub lent_are : lent ≡ logical_lines [] lines
  pub number : h.number ≡ number_after (flat_map (λ line. line) lines)

-- After `feed`, the bytes taken are those taken before it and as many bytes of the piece as it
-- returned. A call that fails takes none.
abbrev pub FeedsAll : Bytes → List LogicalLine → Bytes → Result ℕ (Failure CutFault)
    → CutterState → Type 0
FeedsAll taken lent piece (Ok n) new = Cuts (taken ++ take n piece) lent new
FeedsAll taken lent piece (Err failure) new = Cuts taken lent new
