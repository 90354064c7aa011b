-- What a call returns in its caller's memory, and when it writes there.
use Rattle.std.specs.Prelude.{◌≡◌, ℕ, ◌<◌, ◌⊎◌, [], ◌∷◌, ◌++◌, ◌-◌, drop, length, map, nat_lt, take, Bool, if◌then◌else◌, Option, Some, None, Result, Ok}
use Rattle.std.specs.List.{flat_map}
use Rattle.std.specs.Option.{unwrap_or}
use Rattle.std.specs.declared.alloc.AllocError.{AllocError}
use Rattle.dep_order.specs.Numbers.{Numbers}
use Rattle.ninja_text.specs.Bytes.{Bytes, Text}
use Rattle.commands.specs.Answers.{file_value}
use Rattle.commands.specs.Outcomes.{FileValue, OutputValue}
use Rattle.commands.specs.Outcomes as commands
use Rattle.commands.specs.declared.answer.Answer.{Answer}
use Rattle.commands.specs.declared.location.Code.{Code}
use Rattle.commands.specs.declared.location.Document.{Document}
use Rattle.commands.specs.declared.location.Document.TheVariants.{Target, Project, Scan, Info, Edges, Name, Dyndep}
use Rattle.commands.specs.declared.location.Entry.{Entry}
use Rattle.commands.specs.declared.location.Entry.TheVariants.{Provides, Requires, Path}
use Rattle.commands.specs.declared.location.Location.{Location}
use Rattle.in_memory.specs.Runs.{Answers}
use Rattle.in_memory.specs.declared.reply.Outcome.{Outcome}

-- A status, numbers and a text. The last numbers, as many as are extra, are left out if there is no
-- room for them.
pub record ReplyValue : Type 0 where
  pub status : ℕ
  pub numbers : Numbers
  pub extra : ℕ
  pub text : Text

-- how many numbers need room
abbrev pub needed : ReplyValue → ℕ
needed reply = length reply.numbers - reply.extra

-- how many are written if there is so much room
abbrev pub stored : ReplyValue → ℕ → ℕ
stored reply room =
    if nat_lt room (length reply.numbers) then needed reply else length reply.numbers

-- ---- the reply of a command

-- 1 for true, 0 for false
abbrev pub as_number : Bool → ℕ
as_number is_so = if is_so then 1 else 0

-- the numbers of a file to write: the lengths of its name and bytes, and whether it is left alone
-- if it has these bytes already
abbrev pub file_numbers : FileValue → Numbers
file_numbers file = length file.name ∷ length file.bytes ∷ as_number file.keeps ∷ []

abbrev pub file_text : FileValue → Text
file_text file = file.name ++ file.bytes

-- the value of a number that an error does not have
abbrev pub absent : ℕ
absent = 18446744073709551615

-- which document, and its index
abbrev pub document_numbers : Option Document → ℕ × ℕ
document_numbers None = (0, absent)
document_numbers (Some Target) = (1, absent)
document_numbers (Some Project) = (2, absent)
document_numbers (Some (Scan index)) = (3, index)
document_numbers (Some (Info index)) = (4, index)
document_numbers (Some Edges) = (5, absent)
document_numbers (Some Name) = (6, absent)
document_numbers (Some Dyndep) = (7, absent)

-- the letter of a code, and its number
abbrev pub code_numbers : Option Code → ℕ × ℕ
code_numbers None = (0, 0)
code_numbers (Some code) = (code.letter, code.number)

-- which list, and the index in it
abbrev pub entry_numbers : Option Entry → ℕ × ℕ
entry_numbers None = (0, absent)
entry_numbers (Some (Provides index)) = (1, index)
entry_numbers (Some (Requires index)) = (2, index)
entry_numbers (Some (Path index)) = (3, index)

-- the numbers of the location of an error
abbrev pub location_numbers : Location → Numbers
location_numbers at =
    (document_numbers at.document).0 ∷ (code_numbers at.code).0 ∷ (code_numbers at.code).1
    ∷ (entry_numbers at.entry).0 ∷ unwrap_or at.target absent ∷ (document_numbers at.document).1
    ∷ unwrap_or at.line absent ∷ unwrap_or at.item absent ∷ (entry_numbers at.entry).1
    ∷ unwrap_or at.offset absent ∷ []

-- those of a run that fails; one that succeeds has none
abbrev pub error_numbers : Option Location → Numbers
error_numbers None = []
error_numbers (Some at) = location_numbers at

-- The reply of a command with this answer. The numbers have the lengths of standard output and of
-- standard error, and the error's location, if there is room for it, or the files to write. The
-- text has standard output, standard error, and then
-- the name and the bytes of each file to write.
abbrev pub answer_reply : Answer → ReplyValue
answer_reply answer =
    let files = map file_value answer.files.items in record {
      status = answer.status;
      numbers = length answer.out.items ∷ length answer.err.items ∷ error_numbers answer.at
          ++ flat_map file_numbers files;
      extra = length (error_numbers answer.at);
      text = answer.out.items ++ answer.err.items ++ flat_map file_text files;
    }

-- the reply of a command with one of these outcomes
abbrev pub Replies : (commands.Outcome OutputValue → Type 0) → ReplyValue → Type 0
Replies IsOutcome reply =
    (answer : Answer) × Answers IsOutcome (Ok answer) × (reply ≡ answer_reply answer)

-- the command has an answer, and this is the reply
abbrev pub HasAnswer : Result Answer AllocError → ReplyValue → Type 0
HasAnswer answer reply = (it : Answer) × (answer ≡ Ok it) × (reply ≡ answer_reply it)

-- ---- what is written

-- nothing was written
abbrev pub Unchanged : Numbers → Bytes → Numbers → Bytes → Type 0
Unchanged old_numbers old_text new_numbers new_text =
    (new_numbers ≡ old_numbers) × (new_text ≡ old_text)

-- The outcome has the room that the reply needs. If there is so much room, the numbers and the text
-- are written to the beginning of the caller's memory, and the rest of that memory stays as it is.
-- Otherwise nothing is written.
pub record IsStored (reply : ReplyValue) (old_numbers : Numbers) (old_text : Bytes)
    (new_numbers : Numbers) (new_text : Bytes) (outcome : Outcome) : Type 0 where
  pub status : outcome.status ≡ reply.status
  pub numbers : outcome.numbers ≡ needed reply
  pub text : outcome.text ≡ length reply.text
  pub written :
      ((outcome.written ≡ 1)
      × (new_numbers ≡ take (stored reply (length old_numbers)) reply.numbers
      ++ drop (stored reply (length old_numbers)) old_numbers)
      × (new_text ≡ reply.text ++ drop (length reply.text) old_text))
      ⊎ ((outcome.written ≡ 0)
      × ((length old_numbers < needed reply) ⊎ (length old_text < length reply.text))
      × Unchanged old_numbers old_text new_numbers new_text)

-- the outcome of a call that writes nothing and has this status
abbrev pub without : ℕ → Outcome
without number = record { status = number; written = 0; numbers = 0; text = 0 }

-- What a call does. If its arguments are valid, it stores one of these replies, or memory runs out:
-- then the status is 4 and nothing is written. If they are not valid, the status is 5 and nothing
-- is written.
pub data Puts (IsCall : Type 0) (IsReply : ReplyValue → Type 0) (old_numbers : Numbers)
    (old_text : Bytes) (new_numbers : Numbers) (new_text : Bytes) (outcome : Outcome) : Type 0 where
  replies : IsCall → (reply : ReplyValue) → IsReply reply →
      IsStored reply old_numbers old_text new_numbers new_text outcome →
      Puts IsCall IsReply old_numbers old_text new_numbers new_text outcome
  no_memory : IsCall → outcome ≡ without 4 →
      Unchanged old_numbers old_text new_numbers new_text →
      Puts IsCall IsReply old_numbers old_text new_numbers new_text outcome
  no_call : (IsCall → ⊥) → outcome ≡ without 5 →
      Unchanged old_numbers old_text new_numbers new_text →
      Puts IsCall IsReply old_numbers old_text new_numbers new_text outcome
