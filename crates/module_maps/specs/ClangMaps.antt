-- The maps of Clang. If a module is provided, the map begins with a line that says so and a line
-- with the BMI's path. Then each needed module has a line with its name, `=` and its path, in byte
-- order of names.
use Rattle.std.specs.Prelude.{◌-◌, Bool, true, List, [], ◌∷◌, ◌++◌, length, map, slice_get, nat_lt, if◌then◌else◌, Option, Some, None, Result, Ok, Err, bytes_eq, codes}
use Rattle.std.specs.List.{flat_map}
use Rattle.std.specs.Cmp.Lexicographic.{slice_cmp}
use Rattle.std.specs.Ordering.{nat_cmp, is_lt}
use Rattle.ninja_text.specs.Bytes.{Text, PathText, Name, equals_sign}
use Rattle.module_maps.specs.Values.{ModuleMapValue}
use Rattle.module_maps.specs.Maps.{pairs_of}
use Rattle.module_maps.specs.MapLines.{first_unfit, named, nameless, ended_line, behind, path_in, pair_in, LineForm, read_lines, lines_of}
use Rattle.module_maps.specs.declared.module_map.MapEntry.{MapEntry}
use Rattle.module_maps.specs.declared.fault.MapFault.{MapFault}
use Rattle.module_maps.specs.declared.fault.MapFault.TheVariants.{MapPath, TwoProvided, BadMapLine}

-- the line before the line with the provided module's path
abbrev pub module_flag : Text
module_flag = codes "-x c++-module"

abbrev pub output_flag : Text
output_flag = codes "-fmodule-output="

abbrev pub file_flag : Text
file_flag = codes "-fmodule-file="

-- the lines of the provided module and of a needed one, without their line ends
abbrev pub output_line : Name × PathText → Text
output_line pair = output_flag ++ pair.1

abbrev pub file_line : Name × PathText → Text
file_line pair = file_flag ++ pair.0 ++ equals_sign ∷ pair.1

-- the two lines of a provided module
abbrev pub output_text : Name × PathText → Text
output_text pair = ended_line module_flag ++ ended_line (output_line pair)

-- the text of a map
abbrev pub clang_text : ModuleMapValue → Text
clang_text m =
    flat_map output_text m.provided ++ flat_map (λ pair. ended_line (file_line pair)) m.needed

-- K1 if a path cannot be in a map, otherwise K2 if more than one module is provided, otherwise the
-- text
abbrev pub clang_result : ModuleMapValue → Option PathText → Result Text MapFault
clang_result m (Some path) = Err (MapPath path)
clang_result m None = if nat_lt 1 (length m.provided) then Err TwoProvided else Ok (clang_text m)

-- what is written for a map, or why it cannot be written
abbrev pub clang_written : ModuleMapValue → Result Text MapFault
clang_written m = clang_result m (first_unfit (pairs_of m))

-- what the style keeps of a map: the provided modules without names, then the needed ones with
-- names
abbrev pub clang_kept : ModuleMapValue → List MapEntry
clang_kept m = map nameless m.provided ++ map named m.needed

-- the name is greater than this one, if there is one
abbrev pub rises : Option Name → Name → Bool
rises None name = true
rises (Some before) name = is_lt (slice_cmp nat_cmp before name)

-- the name is greater than that of this entry, if there is an entry and it has a name
abbrev pub rises_behind : Option MapEntry → Name → Bool
rises_behind None name = true
rises_behind (Some entry) name = rises entry.name name

-- the name and the path of a needed module, from what follows the flag
abbrev pub file_pair : Option Text → Option (Name × PathText)
file_pair None = None
file_pair (Some rest) = pair_in equals_sign rest

-- the path of the provided module, from what follows the flag
abbrev pub output_path : Option Text → Option PathText
output_path None = None
output_path (Some rest) = path_in rest

-- the entry of a needed module, if its name is greater than that of the last entry
abbrev pub file_entry : List MapEntry → Option (Name × PathText) → Option MapEntry
file_entry entries None = None
file_entry entries (Some pair) =
    if rises_behind (slice_get entries (length entries - 1)) pair.0 then Some (named pair) else None

-- how the line of a needed module is read
abbrev pub clang_form : LineForm
clang_form entries line = file_entry entries (file_pair (behind file_flag line))

-- reads the lines after that of the provided module, which has this path
abbrev pub read_behind : Option PathText → List Text → Result (List MapEntry) MapFault
read_behind None lines = Err (BadMapLine 2)
read_behind (Some path) lines =
    read_lines clang_form (record { name = None; path = path } ∷ []) 3 lines

-- reads the lines after the first one, which says that a module is provided
abbrev pub read_provided : List Text → Result (List MapEntry) MapFault
read_provided [] = Err (BadMapLine 2)
read_provided (last ∷ []) = Err (BadMapLine 2)
read_provided (line ∷ next ∷ lines) =
    read_behind (output_path (behind output_flag line)) (next ∷ lines)

-- reads a map, whose first line may say that a module is provided
abbrev pub clang_read : List Text → Result (List MapEntry) MapFault
clang_read [] = read_lines clang_form [] 1 []
clang_read (last ∷ []) = read_lines clang_form [] 1 (last ∷ [])
clang_read (first ∷ next ∷ lines) =
    if bytes_eq first module_flag then read_provided (next ∷ lines)
    else read_lines clang_form [] 1 (first ∷ next ∷ lines)

-- the entries that a text is read as
abbrev pub clang_entries : Text → Result (List MapEntry) MapFault
clang_entries text = clang_read (lines_of text)
