-- A style of a caller's own: a path per line, and no names.
use Rattle.std.specs.Prelude.{List, [], map, Option, Some, None, Result, Ok, Err}
use Rattle.std.specs.List.{flat_map}
use Rattle.ninja_text.specs.Bytes.{Bytes, Text, PathText, Name}
use Rattle.module_maps.specs.Values.{ModuleMapValue}
use Rattle.module_maps.specs.Maps.{pairs_of}
use Rattle.module_maps.specs.MapLines.{first_unfit, nameless, ended_line, path_in, LineForm, read_lines, lines_of}
use Rattle.module_maps.specs.declared.module_map.MapEntry.{MapEntry}
use Rattle.module_maps.specs.declared.fault.MapFault.{MapFault}
use Rattle.module_maps.specs.declared.fault.MapFault.TheVariants.{MapPath}

-- the lines, unless a path is unfit
abbrev pub bare_text : List (Name × PathText) → Option Bytes → Result Text MapFault
bare_text pairs (Some path) = Err (MapPath path)
bare_text pairs None = Ok (flat_map (λ pair. ended_line pair.1) pairs)

-- what is written for a map
abbrev pub bare_written : ModuleMapValue → Result Bytes MapFault
bare_written m = bare_text (pairs_of m) (first_unfit (pairs_of m))

-- what is kept: the paths
abbrev pub bare_kept : ModuleMapValue → List MapEntry
bare_kept m = map nameless (pairs_of m)

-- the entry of a path
abbrev pub bare_entry : Option Bytes → Option MapEntry
bare_entry None = None
bare_entry (Some path) = Some (record { name = None; path = path })

-- how a line is read, whatever lines are before it
abbrev pub bare_form : LineForm
bare_form entries line = bare_entry (path_in line)

-- what is read in a text
abbrev pub bare_entries : Text → Result (List MapEntry) MapFault
bare_entries text = read_lines bare_form [] 1 (lines_of text)
