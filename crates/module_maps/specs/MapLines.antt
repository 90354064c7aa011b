-- What the styles of module maps share: which paths a map can contain, and how its lines are read.
use Rattle.std.specs.Prelude.{◌≡◌, ℕ, ◌+◌, ◌<◌, ◌==◌, Bool, not, ◌&&◌, if◌then◌else◌, nat_lt, List, [], ◌∷◌, ◌++◌, length, take, drop, option_map, Option, Some, None, Result, Ok, Err, bytes_eq, position}
use Rattle.std.specs.List.{list_all, slice_split}
use Rattle.std.specs.Str.{is_utf8}
use Rattle.ninja_text.specs.Paths.{path_of, is_empty}
use Rattle.ninja_text.specs.Bytes.{Byte, Text, PathText, Name, line_feed, space, double_quote, single_quote, backslash, delete}
use Rattle.ninja_text.specs.declared.fault.PathFault.{PathFault}
use Rattle.document_values.specs.Name.{is_name}
use Rattle.module_maps.specs.declared.module_map.MapEntry.{MapEntry}
use Rattle.module_maps.specs.declared.fault.MapFault.{MapFault}
use Rattle.module_maps.specs.declared.fault.MapFault.TheVariants.{BadMapLine}

-- no control byte or space, and not 127, `'`, `"` or `\`
abbrev pub is_map_byte : ℕ → Bool
is_map_byte b =
    nat_lt space b && not (b == delete) && not (b == single_quote) && not (b == double_quote)
    && not (b == backslash)

-- the path can be in a map
abbrev pub is_fit : PathText → Bool
is_fit path = list_all is_map_byte path

-- the first path that cannot be in a map
abbrev pub first_unfit : List (Name × PathText) → Option PathText
first_unfit [] = None
first_unfit (pair ∷ pairs) = if is_fit pair.1 then first_unfit pairs else Some pair.1

abbrev pub is_line_end : ℕ → Bool
is_line_end b = b == line_feed

-- the lines of a text without their line ends, and last what follows the last line end
abbrev pub lines_of : Text → List Text
lines_of text = slice_split is_line_end text

-- the text, if it is the canonical form of the path
abbrev pub canonical_in : Text → Result PathText PathFault → Option PathText
canonical_in text (Ok path) = if bytes_eq path text then Some text else None
canonical_in text (Err fault) = None

-- the text, if it is a canonical path that can be in a map
unfoldable pub path_in : Text → Option PathText
path_in text = if is_fit text then canonical_in text (path_of text) else None

-- the text, if it is a module name in UTF-8
unfoldable pub name_in : Text → Option Name
name_in text = if is_utf8 text && is_name text then Some text else None

-- the text before the first `mark`, and the text after it
abbrev pub cut : Byte → Text → Option (Text × Text)
cut mark text = option_map (λ i. (take i text, drop (i + 1) text)) (position (λ b. b == mark) text)

-- the pair, if both are present
abbrev pub both : Option Name → Option PathText → Option (Name × PathText)
both None path = None
both (Some name) None = None
both (Some name) (Some path) = Some (name, path)

-- the name and the path that two texts are read as
abbrev pub read_pair : Option (Text × Text) → Option (Name × PathText)
read_pair None = None
read_pair (Some texts) = both (name_in texts.0) (path_in texts.1)

-- splits the text at the first `mark` into a name and a path
unfoldable pub pair_in : Byte → Text → Option (Name × PathText)
pair_in mark text = read_pair (cut mark text)

-- a line with its line end
abbrev pub ended_line : Text → Text
ended_line line = line ++ line_feed ∷ []

-- the entry of a module with its name, and one without
abbrev pub named : Name × PathText → MapEntry
named pair = record { name = Some pair.0; path = pair.1 }

abbrev pub nameless : Name × PathText → MapEntry
nameless pair = record { name = None; path = pair.1 }

-- some of the entries were appended, from the first on, but not all
abbrev pub AppendsFirst : List MapEntry → List MapEntry → List MapEntry → Type 0
AppendsFirst old entries new = (k : ℕ) × (k < length entries) × (new ≡ old ++ take k entries)

-- the text after this prefix, if the text begins with it
abbrev pub behind : Text → Text → Option Text
behind prefix text =
    if bytes_eq (take (length prefix) text) prefix then Some (drop (length prefix) text) else None

-- how a style reads a line (without its line end), given the entries of earlier lines
abbrev pub LineForm : Type 0
LineForm = List MapEntry → Text → Option MapEntry

-- The entries so far and those of these lines. Lines are numbered from n. The last one is what
-- follows the last line end, and has to be empty. Otherwise the result is K4 with the number of the
-- first bad line.
abbrev pub read_lines : LineForm → List MapEntry → ℕ → List Text →
    Result (List MapEntry) MapFault
read_lines form entries n [] = Ok entries
read_lines form entries n (last ∷ []) = if is_empty last then Ok entries else Err (BadMapLine n)
read_lines form entries n (line ∷ next ∷ lines) =
    elim (form entries line) [
      | None ↦ Err (BadMapLine n)
      | Some entry ↦ read_lines form (entries ++ entry ∷ []) (n + 1) (next ∷ lines)
    ]
