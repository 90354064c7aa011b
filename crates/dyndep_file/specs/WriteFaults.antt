-- Which lists of statements cannot be written, and what is true after a call that writes.
use Rattle.std.specs.Prelude.{◌≡◌, ℕ, ◌+◌, ◌≤◌, nat_lt, not, if◌then◌else◌, List, [], ◌∷◌, ◌++◌, length, All, position, Option, Some, None, option_map, Result, Ok, Err, ⊤}
use Rattle.std.specs.Option.{option_or}
use Rattle.ninja_text.specs.Bytes.{Bytes, Text, PathText}
use Rattle.ninja_text.specs.declared.counting.Counted.{Counted}
use Rattle.ninja_text.specs.declared.failure.Failure.{Failure}
use Rattle.ninja_text.specs.declared.failure.Failure.TheVariants.{Memory, Fault}
use Rattle.ninja_text.specs.Counting.{IsCutShort, Call, IsTakenInTurn, IsStoppedInTurn}
use Rattle.ninja_text.specs.Lines.{line_limit}
use Rattle.ninja_text.specs.Escapes.{is_writable, IsWritable}
use Rattle.dyndep_file.specs.StatementValue.{StatementValue}
use Rattle.dyndep_file.specs.Writing.{build_line, dyndep_text}
use Rattle.dyndep_file.specs.declared.fault.WriteFault.{WriteFault}
use Rattle.dyndep_file.specs.declared.fault.WriteFault.TheVariants.{Unwritable, StatementTooLong, Io}

-- the paths of a statement, in the order in which errors count them
abbrev pub paths_of : StatementValue → List PathText
paths_of s = s.output ∷ (s.implicit_outputs ++ s.implicit_inputs)

-- the error of the statement at this index: its first path that cannot be escaped, or otherwise a
-- build line that is too long
abbrev pub statement_fault : ℕ → StatementValue → Option WriteFault
statement_fault index s = option_or
    (option_map (λ path. Unwritable index path)
    (position (λ path. not (is_writable path)) (paths_of s)))
    (if nat_lt line_limit (length (build_line s)) then Some (StatementTooLong index) else None)

-- the error of the first statement that has one, if the first statement has this index
abbrev pub fault_from : ℕ → List StatementValue → Option WriteFault
fault_from index [] = None
fault_from index (s ∷ ss) = option_or (statement_fault index s) (fault_from (index + 1) ss)

-- the error of a list of statements, with indexes from 0
abbrev pub write_fault : List StatementValue → Option WriteFault
write_fault statements = fault_from 0 statements

-- the text of the statements, or this error if there is one
abbrev pub text_unless : Option WriteFault → List StatementValue → Result Text WriteFault
text_unless None statements = Ok (dyndep_text statements)
text_unless (Some fault) statements = Err fault

-- the text of a list of statements, or its error if it has one
abbrev pub text_or_fault : List StatementValue → Result Text WriteFault
text_or_fault statements = text_unless (write_fault statements) statements

-- A statement that can be written: each path can be escaped, and the build line is not too long.
pub record CanBeWritten (s : StatementValue) : Type 0 where
  pub paths : All IsWritable (paths_of s)
  pub line : length (build_line s) ≤ line_limit

-- The writer after a call that failed. After `Io`, the first `written` bytes were written and one
-- call of the writer failed. After any other failure the writer is unchanged.
abbrev pub LeavesWriter : {W : Type 0} → (W → Option Bytes) → Counted W → Counted W → Text
    → Failure WriteFault → Type 0
LeavesWriter contents old new text Memory = new ≡ old
LeavesWriter contents old new text (Fault (Unwritable statement path)) = new ≡ old
LeavesWriter contents old new text (Fault (StatementTooLong statement)) = new ≡ old
LeavesWriter contents old new text (Fault (Io written)) = IsCutShort contents old new text written

-- The calls of the writer that were made before a failure. With `Io`, calls took the first
-- `written` bytes, and one more failed. With any other failure no call was made.
abbrev pub StopsInTurn : {W : Type 0} → Call W → W → W → Text → Failure WriteFault → Type 0
StopsInTurn writes old new text Memory = new ≡ old
StopsInTurn writes old new text (Fault (Unwritable statement path)) = new ≡ old
StopsInTurn writes old new text (Fault (StatementTooLong statement)) = new ≡ old
StopsInTurn writes old new text (Fault (Io written)) = IsStoppedInTurn writes old new text written

-- the calls of the writer that were made; on success they took the whole text
abbrev pub WritesInTurn : {W T : Type 0}
    → Call W → W → W → Text → Result T (Failure WriteFault) → Type 0
WritesInTurn writes old new text (Ok done) = IsTakenInTurn writes old new text (length text)
WritesInTurn writes old new text (Err failure) = StopsInTurn writes old new text failure

-- Unless an allocation fails, the error of the statements is returned, if they have one. Success
-- and `Io` mean that they have none.
abbrev pub AnswersWriteFault : {T : Type 0} → Option WriteFault → Result T (Failure WriteFault)
    → Type 0
AnswersWriteFault fault (Ok done) = fault ≡ None
AnswersWriteFault fault (Err Memory) = ⊤
AnswersWriteFault fault (Err (Fault (Unwritable statement path))) =
    fault ≡ Some (Unwritable statement path)
AnswersWriteFault fault (Err (Fault (StatementTooLong statement))) =
    fault ≡ Some (StatementTooLong statement)
AnswersWriteFault fault (Err (Fault (Io written))) = fault ≡ None
