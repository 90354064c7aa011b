-- Logical lines (Ninja 1.11 manual, "Lexical syntax"). A text is divided into lines, each with its
-- end, and a rest without a line end.
use Rattle.std.specs.Prelude.{◌≡◌, ℕ, ◌+◌, Bool, false, ◌==◌, ◌&&◌, if◌then◌else◌, List, [], ◌∷◌, ◌++◌, length, take, map, count_by, min, Option, Some, None}
use Rattle.std.specs.List.{flat_map, AllByRecursion}
use Rattle.ninja_text.specs.Bytes.{Bytes, Text, line_feed, carriage_return, space, hash}
use Rattle.ninja_text.specs.Units.{unit_len, is_byte, units}
use Rattle.ninja_text.specs.declared.lexing.LineUnit.{LineUnit}
use Rattle.ninja_text.specs.declared.lexing.LineUnit.TheVariants.{Byte}

-- the maximum length of a line in bytes, including its end
abbrev pub line_limit : ℕ
line_limit = 1048576

-- whether the line is a comment: its first byte other than space is `#`
abbrev pub is_comment : Bytes → Bool
is_comment [] = false
is_comment (b ∷ bytes) = if b == space then is_comment bytes else b == hash

-- The units of a line and what follows it. In a comment nothing is escaped: each byte is a unit.
abbrev pub line_units : Bytes → List LineUnit
line_units bytes = if is_comment bytes then map Byte bytes else units bytes

-- the end of a line: the length of the line without its end, and with it
pub record LineEnd : Type 0 where
  pub text_len : ℕ
  pub line_len : ℕ

abbrev pub begins_with_line_feed : List LineUnit → Bool
begins_with_line_feed [] = false
begins_with_line_feed (u ∷ us) = is_byte line_feed u

-- The first line end among units that begin at this offset: an LF that is a unit by itself. A CR
-- directly before it belongs to the end, if it is also a unit by itself.
abbrev pub end_from : ℕ → List LineUnit → Option LineEnd
end_from index [] = None
end_from index (u ∷ us) =
    if is_byte line_feed u then Some (record { text_len = index; line_len = index + 1 })
    else if is_byte carriage_return u && begins_with_line_feed us then
    Some (record { text_len = index; line_len = index + 2 })
    else end_from (index + unit_len u) us

-- the end of the first line, if it has one
abbrev pub line_end : Bytes → Option LineEnd
line_end bytes = end_from 0 (line_units bytes)

-- The bytes are exactly one line, including its end.
abbrev pub IsLine : Bytes → Type 0
IsLine bytes =
    (text_len : ℕ)
    × (line_end bytes ≡ Some (record { text_len = text_len; line_len = length bytes }))

-- The bytes are these lines, one after another, and a rest without a line end.
pub record Divides (bytes : Bytes) (lines : List Text) (rest : Bytes) : Type 0 where
  pub whole : bytes ≡ flat_map (λ line. line) lines ++ rest
  pub each : AllByRecursion IsLine lines
  pub partial : line_end rest ≡ None

-- a line without this end; the whole line if there is no end
abbrev pub text_before : Text → Option LineEnd → Text
text_before line (Some end) = take end.text_len line
text_before line None = line

-- a line without its end
abbrev pub text_of_line : Text → Text
text_of_line line = text_before line (line_end line)

abbrev pub line_feeds_in : Bytes → ℕ
line_feeds_in bytes = count_by (λ b. b == line_feed) bytes

-- the number of the line after these bytes: 1 plus the number of LF bytes, at most 2^64 - 1
abbrev pub number_after : Bytes → ℕ
number_after bytes = min 18446744073709551615 (1 + line_feeds_in bytes)

-- the view of a line: its text without the end, its number, and whether it is a comment
pub record LogicalLine : Type 0 where
  pub text : Text
  pub number : ℕ
  pub comment : Bool

-- the view of a line that comes after these bytes
abbrev pub logical_line : Bytes → Text → LogicalLine
logical_line before line =
    record { text = text_of_line line; number = number_after before; comment = is_comment line }

-- the views of lines that come one after another after these bytes
abbrev pub logical_lines : Bytes → List Text → List LogicalLine
logical_lines before [] = []
logical_lines before (line ∷ lines) =
    logical_line before line ∷ logical_lines (before ++ line) lines
