-- The statements of the lines so far, and what one more line does to them.
use Rattle.std.specs.Prelude.{Bool, false, List, [], ◌∷◌, ◌++◌, Option, Some, None}
use Rattle.std.specs.Option.{option_and_then}
use Rattle.ninja_text.specs.Bytes.{PathText}
use Rattle.dyndep_file.specs.StatementValue.{StatementValue, statement_with}
use Rattle.dyndep_file.specs.Classes.{DyndepClass, Comment, Blank, Version, Build, Binding}
use Rattle.dyndep_file.specs.declared.progress.Stage.{Stage}
use Rattle.dyndep_file.specs.declared.progress.Stage.TheVariants.{BeforeVersion, NoneOpen, Open}

-- The statements so far, and the stage: before the version line, or after it without an open
-- statement, or after it with the last statement open for a binding.
pub record ProgressValue : Type 0 where
  pub stage : Stage
  pub statements : List StatementValue

-- the statements, with this value for `restat` in the last one
abbrev pub with_last_restat : Bool → List StatementValue → List StatementValue
with_last_restat flag [] = []
with_last_restat flag (s ∷ []) = record s { restat = flag } ∷ []
with_last_restat flag (s ∷ t ∷ ss) = s ∷ with_last_restat flag (t ∷ ss)

-- the statements and one more, which is open and whose flag is off
abbrev pub open_statement : List StatementValue → PathText → List PathText → List PathText
    → ProgressValue
open_statement statements output outputs inputs = record {
  stage = Open;
  statements = statements ++ statement_with output outputs inputs false ∷ [];
}

-- What a line of this class does; None if it may not come here. A comment changes nothing. A blank
-- line closes the open statement. The version line comes once, before all build lines. A build line
-- opens a statement. A binding sets the flag of the open statement and closes the statement.
abbrev pub step : Stage → List StatementValue → DyndepClass → Option ProgressValue
step BeforeVersion ss Comment = Some (record { stage = BeforeVersion; statements = ss })
step BeforeVersion ss Blank = Some (record { stage = BeforeVersion; statements = ss })
step BeforeVersion ss Version = Some (record { stage = NoneOpen; statements = ss })
step BeforeVersion ss (Build o outs ins) = None
step BeforeVersion ss (Binding flag) = None
step NoneOpen ss Comment = Some (record { stage = NoneOpen; statements = ss })
step NoneOpen ss Blank = Some (record { stage = NoneOpen; statements = ss })
step NoneOpen ss Version = None
step NoneOpen ss (Build o outs ins) = Some (open_statement ss o outs ins)
step NoneOpen ss (Binding flag) = None
step Open ss Comment = Some (record { stage = Open; statements = ss })
step Open ss Blank = Some (record { stage = NoneOpen; statements = ss })
step Open ss Version = None
step Open ss (Build o outs ins) = Some (open_statement ss o outs ins)
step Open ss (Binding flag) =
    Some (record { stage = NoneOpen; statements = with_last_restat flag ss })

-- what lines of these classes do, one after another
abbrev pub run : Stage → List StatementValue → List DyndepClass → Option ProgressValue
run stage ss [] = Some (record { stage = stage; statements = ss })
run stage ss (c ∷ classes) =
    option_and_then (λ s. run s.stage s.statements classes) (step stage ss c)
