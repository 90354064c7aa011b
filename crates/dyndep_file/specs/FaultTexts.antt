-- How the errors of a dyndep file are printed: code, name and position.
use Rattle.std.specs.Prelude.{◌++◌, codes}
use Rattle.std.specs.Fmt.{decimal}
use Rattle.ninja_text.specs.Bytes.{Text}
use Rattle.ninja_text.specs.FaultTexts.{lex_fault_text}
use Rattle.dyndep_file.specs.declared.fault.LineFault.{LineFault}
use Rattle.dyndep_file.specs.declared.fault.LineFault.TheVariants.{LineTooLong, Truncated, Lexical, NoVersion, BadVersion, SecondVersion, Indent, BadLine}
use Rattle.dyndep_file.specs.declared.fault.LineFault.TheVariants.{NoOutput, SecondOutput, BadRule, ExplicitInput, OrderOnly, Validation, BadBinding}
use Rattle.dyndep_file.specs.declared.fault.ReadFault.{ReadFault}
use Rattle.dyndep_file.specs.declared.fault.ReadFault.TheVariants.{AtLine, Io}
use Rattle.dyndep_file.specs.declared.fault.WriteFault.{WriteFault}
use Rattle.dyndep_file.specs.declared.fault.WriteFault.TheVariants as write

-- what is wrong with a line
abbrev pub line_fault_text : LineFault → Text
line_fault_text LineTooLong = codes "N5 LineTooLong"
line_fault_text Truncated = codes "N6 Truncated"
line_fault_text (Lexical fault) = lex_fault_text fault
line_fault_text NoVersion = codes "Y4 NoVersion"
line_fault_text BadVersion = codes "Y5 BadVersion"
line_fault_text SecondVersion = codes "Y6 SecondVersion"
line_fault_text Indent = codes "Y7 Indent"
line_fault_text BadLine = codes "Y8 BadLine"
line_fault_text NoOutput = codes "Y9 NoOutput"
line_fault_text SecondOutput = codes "Y10 SecondOutput"
line_fault_text BadRule = codes "Y11 BadRule"
line_fault_text ExplicitInput = codes "Y12 ExplicitInput"
line_fault_text OrderOnly = codes "Y13 OrderOnly"
line_fault_text Validation = codes "Y14 Validation"
line_fault_text BadBinding = codes "Y15 BadBinding"

-- why a dyndep file could not be read
abbrev pub read_fault_text : ReadFault → Text
read_fault_text (AtLine line fault) =
    codes "line " ++ decimal line ++ codes ": " ++ line_fault_text fault
read_fault_text Io = codes "Y16 Io"

-- why a list of statements could not be written
abbrev pub write_fault_text : WriteFault → Text
write_fault_text (write.Unwritable statement path) =
    codes "Y1 Unwritable statement " ++ decimal statement ++ codes " path " ++ decimal path
write_fault_text (write.StatementTooLong statement) =
    codes "Y2 StatementTooLong statement " ++ decimal statement
write_fault_text (write.Io written) = codes "Y3 Io written " ++ decimal written
