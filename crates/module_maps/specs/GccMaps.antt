-- The maps of GCC: for each module a line with its name, a space and its path.
use Rattle.std.specs.Prelude.{List, Result}
use Rattle.ninja_text.specs.Bytes.{Text, space}
use Rattle.module_maps.specs.Values.{ModuleMapValue}
use Rattle.module_maps.specs.MarkedMaps.{marked_written, marked_kept, marked_entries}
use Rattle.module_maps.specs.declared.module_map.MapEntry.{MapEntry}
use Rattle.module_maps.specs.declared.fault.MapFault.{MapFault}

-- what is written for a map, or why it cannot be written
abbrev pub gcc_written : ModuleMapValue → Result Text MapFault
gcc_written m = marked_written space m

-- what the style keeps of a map
abbrev pub gcc_kept : ModuleMapValue → List MapEntry
gcc_kept m = marked_kept m

-- the entries that a text is read as
abbrev pub gcc_entries : Text → Result (List MapEntry) MapFault
gcc_entries text = marked_entries space text
