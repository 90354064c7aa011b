-- A statement of a dyndep file: its paths, without escapes, and its flag.
use Rattle.std.specs.Prelude.{Bool, List}
use Rattle.ninja_text.specs.Bytes.{PathText}

-- The output, the implicit outputs, the implicit inputs, and whether `restat` is set.
pub record StatementValue : Type 0 where
  pub output : PathText
  pub implicit_outputs : List PathText
  pub implicit_inputs : List PathText
  pub restat : Bool

-- the statement with these paths and this flag
abbrev pub statement_with : PathText → List PathText → List PathText → Bool → StatementValue
statement_with output outputs inputs flag = record {
  output = output;
  implicit_outputs = outputs;
  implicit_inputs = inputs;
  restat = flag;
}
