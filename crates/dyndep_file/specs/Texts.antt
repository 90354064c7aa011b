-- The text of a dyndep file, to which statements are added one by one.
use Rattle.std.specs.Prelude.{◌≡◌, ℕ, List, length, None, Ok}
use Rattle.ninja_text.specs.Bytes.{Bytes}
use Rattle.dyndep_file.specs.StatementValue.{StatementValue}
use Rattle.dyndep_file.specs.Reading.{StandsForOnly}
use Rattle.dyndep_file.specs.Writing.{dyndep_text}
use Rattle.dyndep_file.specs.WriteFaults.{write_fault, text_or_fault}

-- the bytes so far, and the number of statements added
pub record TextValue : Type 0 where
  pub bytes : Bytes
  pub count : ℕ

-- Exactly these statements were added, and none of them has an error.
pub record IsTextOf (statements : List StatementValue) (text : TextValue) : Type 0 where
  pub bytes : text.bytes ≡ dyndep_text statements
  pub count : text.count ≡ length statements
  pub unfaulted : write_fault statements ≡ None

-- The bytes are the text of these statements and stand for no other statements.
pub record IsFinished (statements : List StatementValue) (bytes : Bytes) : Type 0 where
  pub text : text_or_fault statements ≡ Ok bytes
  pub unfaulted : write_fault statements ≡ None
  pub meaning : StandsForOnly bytes statements
