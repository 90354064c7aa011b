-- What the command `show` prints.
use Rattle.std.specs.Prelude.{◌≡◌, List, Ok, Err}
use Rattle.ninja_text.specs.Bytes.{Text}
use Rattle.dyndep_file.specs.FaultTexts.{write_fault_text}
use Rattle.dyndep_file.specs.StatementValue.{StatementValue}
use Rattle.dyndep_file.specs.WriteFaults.{text_or_fault}
use Rattle.dyndep_file.specs.declared.fault.WriteFault.{WriteFault}
use Rattle.commands.specs.Dyndeps.{DyndepRead, IsDyndepRead, DyndepOf}
use Rattle.commands.specs.Folder.{whole}
use Rattle.commands.specs.Locations.{write_location}
use Rattle.commands.specs.Outcomes.{ErrorValue, Part, OutputValue, Comes, Returns, Prints, located, ◌>>=◌}

-- why statements can't be written
abbrev pub write_error : WriteFault → ErrorValue
write_error fault = located (write_fault_text fault) (write_location fault)

-- the text of the statements of a dyndep file, or why they can't be written
abbrev pub DyndepTextOf : List StatementValue → Part Text
DyndepTextOf statements =
    Returns (λ text. text_or_fault statements ≡ Ok text)
    (λ fault. text_or_fault statements ≡ Err fault)
    write_error

-- What a run prints for a dyndep file that was read.
abbrev pub ShowOfRead : DyndepRead → Part OutputValue
ShowOfRead dyndep = do
  statements ← DyndepOf dyndep
  text ← DyndepTextOf statements
  Prints text

-- What a run prints for these bytes of a dyndep file.
abbrev pub ShowRun : Text → Part OutputValue
ShowRun dyndep = do
  read ← Comes (IsDyndepRead (whole dyndep))
  ShowOfRead read
