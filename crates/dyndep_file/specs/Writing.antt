-- The text of a list of statements (Ninja 1.11 manual, "Dyndep file reference").
use Rattle.std.specs.Prelude.{if◌then◌else◌, List, [], ◌∷◌, ◌++◌, codes}
use Rattle.std.specs.List.{flat_map}
use Rattle.ninja_text.specs.Bytes.{Text, PathText, space, line_feed}
use Rattle.ninja_text.specs.Escapes.{escaped}
use Rattle.dyndep_file.specs.StatementValue.{StatementValue}

-- a space and the escaped path
abbrev pub spaced : PathText → Text
spaced path = space ∷ escaped path

-- ` |` and each path after a space; nothing if there are no paths
abbrev pub part_text : List PathText → Text
part_text [] = []
part_text (path ∷ paths) = codes " |" ++ flat_map spaced (path ∷ paths)

-- the build line of a statement, including its end
abbrev pub build_line : StatementValue → Text
build_line s =
    codes "build " ++ escaped s.output ++ part_text s.implicit_outputs
    ++ codes ": dyndep" ++ part_text s.implicit_inputs ++ line_feed ∷ []

-- the line of the binding `restat`, if the flag is set
abbrev pub binding_line : StatementValue → Text
binding_line s = if s.restat then codes "  restat = 1" ++ line_feed ∷ [] else []

-- the lines of a statement
abbrev pub statement_text : StatementValue → Text
statement_text s = build_line s ++ binding_line s

-- the first line of a dyndep file
abbrev pub version_line : Text
version_line = codes "ninja_dyndep_version = 1" ++ line_feed ∷ []

-- the text of a dyndep file: the version line, then the lines of each statement
abbrev pub dyndep_text : List StatementValue → Text
dyndep_text statements = version_line ++ flat_map statement_text statements
