-- Maps that have a line for each module: its name, a mark and its path.
use Rattle.std.specs.Prelude.{◌≡◌, false, List, [], ◌∷◌, ◌++◌, map, option_map, Option, Some, None, Result, Ok, Err}
use Rattle.std.specs.List.{flat_map}
use Rattle.ninja_text.specs.Bytes.{Byte, Text, PathText, Name}
use Rattle.document_values.specs.Name.{is_name_byte}
use Rattle.module_maps.specs.Values.{ModuleMapValue}
use Rattle.module_maps.specs.Maps.{pairs_of}
use Rattle.module_maps.specs.MapLines.{first_unfit, named, ended_line, is_line_end, pair_in, LineForm, read_lines, lines_of}
use Rattle.module_maps.specs.declared.module_map.MapEntry.{MapEntry}
use Rattle.module_maps.specs.declared.fault.MapFault.{MapFault}
use Rattle.module_maps.specs.declared.fault.MapFault.TheVariants.{MapPath}

-- the byte is in no name and ends no line
abbrev pub IsMark : Byte → Type 0
IsMark mark = (is_name_byte mark ≡ false) × (is_line_end mark ≡ false)

-- the line of a module, without its line end
abbrev pub marked_line : Byte → Name × PathText → Text
marked_line mark pair = pair.0 ++ mark ∷ pair.1

-- K1 if a path cannot be in a map, otherwise the text
abbrev pub marked_result : Byte → List (Name × PathText) → Option PathText → Result Text MapFault
marked_result mark pairs (Some path) = Err (MapPath path)
marked_result mark pairs None = Ok (flat_map (λ pair. ended_line (marked_line mark pair)) pairs)

-- what is written for a map, or why it cannot be written
abbrev pub marked_written : Byte → ModuleMapValue → Result Text MapFault
marked_written mark m = marked_result mark (pairs_of m) (first_unfit (pairs_of m))

-- what is kept of a map: all modules with their names
abbrev pub marked_kept : ModuleMapValue → List MapEntry
marked_kept m = map named (pairs_of m)

-- how a line is read; earlier lines do not matter
abbrev pub marked_form : Byte → LineForm
marked_form mark entries line = option_map named (pair_in mark line)

-- the entries that a text is read as
abbrev pub marked_entries : Byte → Text → Result (List MapEntry) MapFault
marked_entries mark text = read_lines (marked_form mark) [] 1 (lines_of text)
