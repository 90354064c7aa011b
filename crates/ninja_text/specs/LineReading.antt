-- How a text that arrives in pieces is read line by line into a state: which lines were read, and
-- which line has the error.
use Rattle.std.specs.Prelude.{◌≡◌, ℕ, ◌<◌, ◌≤◌, false, List, [], ◌∷◌, ◌++◌, length, take, Option, Some, None, Result, Ok, Err, ◌⊎◌}
use Rattle.std.specs.List.{flat_map, AllByRecursion}
use Rattle.ninja_text.specs.Bytes.{Bytes, Text}
use Rattle.ninja_text.specs.Lines.{line_limit, line_end, IsLine, LogicalLine, logical_line, logical_lines, number_after}
use Rattle.ninja_text.specs.Cutting.{CutterState, Cuts}
use Rattle.ninja_text.specs.declared.failure.Failure.{Failure}
use Rattle.ninja_text.specs.declared.failure.Failure.TheVariants.{Memory, Fault}
use Rattle.ninja_text.specs.declared.fault.CutFault.{CutFault}
use Rattle.ninja_text.specs.declared.fault.CutFault.TheVariants.{LineTooLong, Truncated}

-- relates a state, a line that passes in it, and the state after the line
abbrev pub Passes : Type 0 → Type 1
Passes S = S → LogicalLine → S → Type 0

-- relates a state, a line that is rejected in it, and the error of the line
abbrev pub RefusesWith : Type 0 → Type 0 → Type 1
RefusesWith S F = S → LogicalLine → F → Type 0

-- What reading a line returns and does: the line passes and leads to the new state, or it is
-- rejected with this error, or an allocation failed.
abbrev pub ReadsLine : {S F : Type 0} → Passes S → RefusesWith S F → S → LogicalLine
    → Result Unit (Failure F) → S → Type 0
ReadsLine passes refuses old line (Ok u) new = passes old line new
ReadsLine passes refuses old line (Err (Fault fault)) new = refuses old line fault
ReadsLine passes refuses old line (Err Memory) new = Unit {0}

-- The lines pass one after another and lead from the old state to the new one.
abbrev pub LeadTo : {S : Type 0} → Passes S → S → List LogicalLine → S → Type 0
LeadTo passes old [] new = new ≡ old
LeadTo {S} passes old (line ∷ lines) new =
    (mid : S) × passes old line mid × LeadTo passes mid lines new

-- The cutter took these bytes and returned all complete lines in them. The bytes that are left are
-- fewer than the limit of a line.
pub record HasLent (bytes : Bytes) (lent : List LogicalLine) (cutter : CutterState) : Type 0 where
  pub cuts : Cuts bytes lent cutter
  pub waits_not : cutter.waits ≡ false
  pub works : cutter.failed ≡ false
  pub short : length cutter.bytes < line_limit

-- The bytes begin with complete lines, none too long, whose views are `lent`. The rest follows, and
-- its first line has this number.
pub record BeginsWith (bytes : Bytes) (lent : List LogicalLine) (number : ℕ) (rest : Bytes)
    : Type 0 where
  pub lines : List Text
  pub whole : bytes ≡ flat_map (λ line. line) lines ++ rest
  pub each : AllByRecursion IsLine lines
  pub short : AllByRecursion (λ line. length line ≤ line_limit) lines
  pub lent_are : lent ≡ logical_lines [] lines
  pub number_is : number ≡ number_after (flat_map (λ line. line) lines)

-- The rest reaches the limit of a line, and no line ends within the limit.
abbrev pub IsTooLong : Bytes → Type 0
IsTooLong rest = (line_limit ≤ length rest) × (line_end (take line_limit rest) ≡ None)

-- The rest begins with a line of this number that is not too long and is rejected with this error.
abbrev pub BeginsRefused : {F : Type 0} → (LogicalLine → F → Type 0) → ℕ → Bytes → F → Type 0
BeginsRefused refuses number rest fault =
    (line after : Bytes) × (rest ≡ line ++ after) × IsLine line × (length line ≤ line_limit)
    × (seen : LogicalLine) × (seen ≡ record (logical_line [] line) { number = number })
    × refuses seen fault

-- The next line after these lines is too long, or the state rejects it, and this is its error. Any
-- bytes may follow it.
abbrev pub IsNextFault : {S F : Type 0} → RefusesWith S F → (CutFault → F)
    → Bytes → List LogicalLine → S → F → Type 0
IsNextFault refuses of_cutter bytes lent state fault =
    (number : ℕ) × (rest : Bytes) × BeginsWith bytes lent number rest
    × ((IsTooLong rest × (fault ≡ of_cutter (LineTooLong number)))
    ⊎ BeginsRefused (refuses state) number rest fault)

-- After the lines that were read before, more lines pass, and the line after them has this error.
abbrev pub HasFaultBehind : {S F : Type 0} → Passes S → RefusesWith S F → (CutFault → F)
    → Bytes → List LogicalLine → S → F → Type 0
HasFaultBehind {S} passes refuses of_cutter bytes lent old fault =
    (more : List LogicalLine) × (mid : S) × LeadTo passes old more mid
    × IsNextFault refuses of_cutter bytes (lent ++ more) mid fault

-- An allocation failed, or the first line that does not pass has this error.
abbrev pub HasFailureBehind : {S F : Type 0} → Passes S → RefusesWith S F → (CutFault → F)
    → Bytes → List LogicalLine → S → Failure F → Type 0
HasFailureBehind passes refuses of_cutter bytes lent old (Fault fault) =
    HasFaultBehind passes refuses of_cutter bytes lent old fault
HasFailureBehind passes refuses of_cutter bytes lent old Memory = Unit {0}

-- the view of a reader of lines: its cutter, the state after the lines so far, and the failure that
-- it returned, if any
pub record LinesRead (S F : Type 0) : Type 0 where
  pub cutter : CutterState
  pub state : S
  pub failed : Option (Failure F)

-- The reader was fed these bytes in total, has read the complete lines in them, and has returned no
-- error.
pub record HasLentAll {S F : Type 0} (bytes : Bytes) (lent : List LogicalLine)
    (r : LinesRead S F) : Type 0 where
  pub has : HasLent bytes lent r.cutter
  pub works : r.failed ≡ None

-- After a failure the reader returns the same failure again and does not change.
abbrev pub StaysRefused : {S F : Type 0} → LinesRead S F → Result Unit (Failure F)
    → LinesRead S F → Type 0
StaysRefused {S} {F} old result new =
    (failure : Failure F) → old.failed ≡ Some failure → (result ≡ Err failure) × (new ≡ old)

-- What `feed` returns and does, given all bytes fed, including this piece, and the lines read
-- before it. After `Ok`, more lines were read, and all passed. After an error, the first line that
-- does not pass has this error, or an allocation failed.
abbrev pub FeedsLines : {S F : Type 0} → Passes S → RefusesWith S F → (CutFault → F)
    → Bytes → List LogicalLine → S → Result Unit (Failure F) → LinesRead S F → Type 0
FeedsLines passes refuses of_cutter bytes lent old (Ok u) new =
    (more : List LogicalLine) × HasLentAll bytes (lent ++ more) new
    × LeadTo passes old more new.state
FeedsLines passes refuses of_cutter bytes lent old (Err failure) new =
    (new.failed ≡ Some failure) × HasFailureBehind passes refuses of_cutter bytes lent old failure

-- The rest has at least one byte, is shorter than the limit, and has no line end.
abbrev pub IsTruncated : Bytes → Type 0
IsTruncated rest = (0 < length rest) × (length rest < line_limit) × (line_end rest ≡ None)

-- What `finish` returns. If the bytes are complete lines, it is the state after them and the number
-- of the next line. Otherwise the last line is `Truncated`: it has no end.
abbrev pub EndsLines : {S F : Type 0} → (CutFault → F) → Bytes → List LogicalLine → S
    → Result (S × ℕ) (Failure F) → Type 0
EndsLines of_cutter bytes lent state (Ok end) = (end.0 ≡ state) × BeginsWith bytes lent end.1 []
EndsLines of_cutter bytes lent state (Err (Fault fault)) =
    (number : ℕ) × (rest : Bytes) × BeginsWith bytes lent number rest × IsTruncated rest
    × (fault ≡ of_cutter (Truncated number))
EndsLines of_cutter bytes lent state (Err Memory) = ⊥
