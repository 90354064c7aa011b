-- The calls of a `Folder` whose files are passed in memory.
use Rattle.std.specs.Prelude.{List, [], ◌∷◌, false, Ok}
use Rattle.std.specs.Cow.{cow_slice_items}
use Rattle.commands.specs.Folder.{FileCall, answer_of, reading, comparing, writing}
use Rattle.in_memory.specs.Given.{GivenFile}
use Rattle.in_memory.specs.declared.files.Call.{Call}
use Rattle.in_memory.specs.declared.files.Call.TheVariants as call

-- a call, as it is added to the history
abbrev pub call_of : Call → FileCall
call_of (call.Read name most answer) = reading name.now (answer_of cow_slice_items most answer.now)
call_of (call.Compared name bytes same) = comparing name.now bytes.now same
call_of (call.Written name bytes answer) = writing name.now bytes.now answer.now

-- The history of a `Folder` with these files. First each file is written, and then a comparison
-- marks the end of the files. So the history determines the files, whatever calls follow.
abbrev pub calls_on : List GivenFile → List FileCall → List FileCall
calls_on [] calls = comparing [] [] false ∷ calls
calls_on (file ∷ files) calls = writing file.name file.bytes (Ok tt) ∷ calls_on files calls
