-- What a part of a run gives that reads a dyndep file.
use Rattle.std.specs.Prelude.{List, Result}
use Rattle.ninja_text.specs.Bytes.{PathText}
use Rattle.ninja_text.specs.declared.failure.Failure.{Failure}
use Rattle.dyndep_file.specs.StatementValue.{StatementValue}
use Rattle.dyndep_file.specs.Reader.{IsReadFaultIn, IsReadFaultOf}
use Rattle.dyndep_file.specs.Reading.{StandsFor}
use Rattle.dyndep_file.specs.FaultTexts.{read_fault_text}
use Rattle.dyndep_file.specs.declared.fault.ReadFault.{ReadFault}
use Rattle.commands.specs.Folder.{FileRead}
use Rattle.commands.specs.Locations.{read_location}
use Rattle.commands.specs.Outcomes.{ErrorValue, Part, IsResultOf, ReadsAs, ValueOf, located}

-- the result of reading a dyndep file
abbrev pub DyndepRead : Type 0
DyndepRead = Result (List StatementValue) (Failure ReadFault)

-- the result follows from what was read of the file
abbrev pub IsDyndepRead : FileRead → DyndepRead → Type 0
IsDyndepRead = IsResultOf StandsFor IsReadFaultIn IsReadFaultOf

-- a part that reads the dyndep file of this name
abbrev pub ReadsDyndep : PathText → Part DyndepRead
ReadsDyndep = ReadsAs IsDyndepRead

-- why a dyndep file can't be read
abbrev pub read_error : ReadFault → ErrorValue
read_error fault = located (read_fault_text fault) (read_location fault)

-- the statements of a dyndep file that was read
abbrev pub DyndepOf : DyndepRead → Part (List StatementValue)
DyndepOf = ValueOf read_error
