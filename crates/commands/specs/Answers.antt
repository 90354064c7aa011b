-- What a run returns as a value: its exit status, its two texts, and the files to be written.
use Rattle.std.specs.Prelude.{◌≡◌, ⊤, ℕ, ◌||◌, ◌==◌, nat_lt, if◌then◌else◌, [], ◌∷◌, ◌++◌, map, Some, None, Result, Ok, Err, string_bytes, codes}
use Rattle.std.specs.declared.alloc.AllocError.{AllocError}
use Rattle.ninja_text.specs.Bytes.{Text, line_feed, space, question_mark, delete}
use Rattle.ninja_text.specs.declared.failure.Failure.TheVariants.{Memory, Fault}
use Rattle.commands.specs.Outcomes.{FileValue, LineValue, OutputValue, Outcome}
use Rattle.commands.specs.declared.answer.Answer.{Answer}
use Rattle.commands.specs.declared.stop.OutputFile.{OutputFile}

-- a byte as it is printed in a line: `?` for a control byte
abbrev pub visible : ℕ → ℕ
visible b = if nat_lt b space || b == delete then question_mark else b

-- the line of a message
abbrev pub line : Text → Text
line message = codes "dyncollate: " ++ map visible message ++ line_feed ∷ []

-- a file that is to be written
abbrev pub file_value : OutputFile → FileValue
file_value file =
    record { name = string_bytes file.name; bytes = file.bytes.items; keeps = file.keeps }

-- The run succeeded: status 0, its text on standard output, nothing on standard error, its files.
pub record IsDone (output : OutputValue) (answer : Answer) : Type 0 where
  pub status : answer.status ≡ 0
  pub out : answer.out.items ≡ output.text
  pub err : answer.err.items ≡ []
  pub at : answer.at ≡ None
  pub files : map file_value answer.files.items ≡ output.files

-- The run failed: its status, one line on standard error, the error's location, and nothing else.
pub record IsStopped (stop : LineValue) (answer : Answer) : Type 0 where
  pub status : answer.status ≡ stop.status
  pub out : answer.out.items ≡ []
  pub err : answer.err.items ≡ line stop.message
  pub at : answer.at ≡ Some stop.at
  pub files : answer.files.items ≡ []

-- what a run returns that has led to this, unless memory runs out
abbrev pub IsAnswered : Outcome OutputValue → Result Answer AllocError → Type 0
IsAnswered (Ok output) (Ok answer) = IsDone output answer
IsAnswered (Ok output) (Err refused) = ⊥
IsAnswered (Err Memory) (Ok answer) = ⊥
IsAnswered (Err Memory) (Err refused) = ⊤
IsAnswered (Err (Fault stop)) (Ok answer) = IsStopped stop answer
IsAnswered (Err (Fault stop)) (Err refused) = ⊤
