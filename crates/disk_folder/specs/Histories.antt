-- What a history has after a call.
use Rattle.std.specs.Prelude.{List, [], ◌∷◌, ◌++◌, Bool, Result, Ok, Err}
use Rattle.std.specs.Cow.{cow_slice_items}
use Rattle.std.specs.declared.io.Error.{Error}
use Rattle.ninja_text.specs.Bytes.{Bytes}
use Rattle.commands.specs.Folder.{FileCall, FileRead, answer_of, reading, comparing, writing}
use Rattle.disk_folder.specs.declared.history.Call.{Call}
use Rattle.disk_folder.specs.declared.history.Call.TheVariants as call

-- what a reader was given of a file, and whether the file has ended
abbrev pub fed : Bytes → Result Bool Error → Result FileRead Error
fed given (Ok ended) = Ok (record { bytes = given; ended = ended })
fed given (Err error) = Err error

-- the bytes that a reader was given
abbrev pub given_after : Bytes → Call → Bytes
given_after given (call.Opened) = []
given_after given (call.Piece piece) = given ++ piece.now
given_after given other = given

-- the calls that are added
abbrev pub calls_of : Bytes → Call → List FileCall
calls_of given (call.Opened) = []
calls_of given (call.Piece piece) = []
calls_of given (call.Fed name result) = reading name.now (fed given result.now) ∷ []
calls_of given (call.Read name most result) =
    reading name.now (answer_of cow_slice_items most result.now) ∷ []
calls_of given (call.Compared name bytes result) = comparing name.now bytes.now result ∷ []
calls_of given (call.Written name bytes result) = writing name.now bytes.now result.now ∷ []
