-- The statements of a dyndep file as numbers and a string, or the error of a file that is not
-- valid.
use Rattle.std.specs.Prelude.{◌≡◌, List, [], ◌∷◌, ◌++◌, length, map}
use Rattle.std.specs.List.{flat_map}
use Rattle.dep_order.specs.Numbers.{Numbers}
use Rattle.ninja_text.specs.Bytes.{Text, PathText}
use Rattle.dyndep_file.specs.FaultTexts.{line_fault_text, read_fault_text}
use Rattle.dyndep_file.specs.Reader.{IsReadFaultOf}
use Rattle.dyndep_file.specs.Reading.{StandsFor}
use Rattle.dyndep_file.specs.StatementValue.{StatementValue}
use Rattle.dyndep_file.specs.declared.fault.ReadFault.{ReadFault}
use Rattle.dyndep_file.specs.declared.fault.ReadFault.TheVariants.{AtLine, Io}
use Rattle.in_memory.specs.Replies.{ReplyValue, as_number}

-- the paths of a statement: its output, implicit outputs and implicit inputs
abbrev pub statement_paths : StatementValue → List PathText
statement_paths s = s.output ∷ s.implicit_outputs ++ s.implicit_inputs

-- The numbers of a statement: whether it has `restat`, how many implicit outputs and implicit
-- inputs it has, and the lengths of its paths.
abbrev pub statement_numbers : StatementValue → Numbers
statement_numbers s =
    as_number s.restat ∷ length s.implicit_outputs ∷ length s.implicit_inputs
    ∷ map length (statement_paths s)

-- the reply with these statements, one after another
abbrev pub statements_reply : List StatementValue → ReplyValue
statements_reply statements = record {
  status = 0;
  numbers = flat_map statement_numbers statements;
  extra = 0;
  text = flat_map (λ s. flat_map (λ path. path) (statement_paths s)) statements;
}

-- the reply for an error: its line, counted from 1, and its code and name
abbrev pub fault_reply : ReadFault → ReplyValue
fault_reply (AtLine line fault) =
    record { status = 1; numbers = line ∷ []; extra = 0; text = line_fault_text fault }
fault_reply Io = record { status = 1; numbers = []; extra = 0; text = read_fault_text Io }

-- The reply for a dyndep file: the statements that it is read as, or its error.
pub data Tells (text : Text) (reply : ReplyValue) : Type 0 where
  stands : (statements : List StatementValue) → StandsFor text statements →
      reply ≡ statements_reply statements → Tells text reply
  faulty : (fault : ReadFault) → IsReadFaultOf text fault → reply ≡ fault_reply fault →
      Tells text reply
