-- Assignments: a name, `=`, and a value that extends to the end of the text.
use Rattle.std.specs.Prelude.{◌≡◌, ℕ, ◌+◌, ◌<◌, Bool, false, ◌==◌, ◌&&◌, ◌||◌, nat_lt, if◌then◌else◌, List, [], ◌∷◌, ◌++◌, length, take, drop, slice_range, Option, Some, None}
use Rattle.std.specs.Option.{option_map}
use Rattle.ninja_text.specs.Bytes.{Text, Name, dot, hyphen, equals_sign, underscore}
use Rattle.ninja_text.specs.Units.{unit_len, is_byte, units, is_digit, is_letter}
use Rattle.ninja_text.specs.declared.lexing.LineUnit.{LineUnit}
use Rattle.ninja_text.specs.declared.lexing.LineUnit.TheVariants.{Continuation, Escape, Byte}
use Rattle.ninja_text.specs.Tokens.{is_blank, value_of}

-- whether a name may contain this byte: letters, digits, `_`, `.`, `-`
abbrev pub is_identifier_byte : ℕ → Bool
is_identifier_byte b = is_letter b || is_digit b || (b == underscore) || (b == dot) || (b == hyphen)

abbrev pub is_name_unit : LineUnit → Bool
is_name_unit (Continuation len) = false
is_name_unit (Escape b) = false
is_name_unit (Byte b) = is_identifier_byte b

-- units, and the offset at which they begin
pub record Rest : Type 0 where
  pub place : ℕ
  pub units : List LineUnit

-- the units after the longest run of units that pass the test
abbrev pub after_run : (LineUnit → Bool) → ℕ → List LineUnit → Rest
after_run test index [] = record { place = index; units = [] }
after_run test index (u ∷ us) =
    if test u then after_run test (index + unit_len u) us
    else record { place = index; units = u ∷ us }

abbrev pub begins_with_equals : List LineUnit → Bool
begins_with_equals [] = false
begins_with_equals (u ∷ us) = is_byte equals_sign u

abbrev pub tail_units : List LineUnit → List LineUnit
tail_units [] = []
tail_units (u ∷ us) = us

-- the offsets of the name and the value of an assignment; the value extends to the end of the text
pub record AssignmentIndexes : Type 0 where
  pub name_start : ℕ
  pub name_end : ℕ
  pub value_start : ℕ

-- The offsets of the name and the value, if the text is an assignment: blanks, a name, blanks, `=`,
-- blanks and a value. Each run of blanks and the name are as long as possible, and the name has at
-- least one byte. The value is the rest of the text.
abbrev pub assignment_indexes : Text → Option AssignmentIndexes
assignment_indexes text =
    let name = after_run is_blank 0 (units text) in
    let past_name = after_run is_name_unit name.place name.units in
    let sign = after_run is_blank past_name.place past_name.units in
    let value = after_run is_blank (sign.place + 1) (tail_units sign.units) in
    if nat_lt name.place past_name.place && begins_with_equals sign.units then
    Some (record { name_start = name.place; name_end = past_name.place; value_start = value.place })
    else None

abbrev pub name_of : Text → AssignmentIndexes → Name
name_of text a = slice_range text a.name_start a.name_end

abbrev pub raw_value_of : Text → AssignmentIndexes → Text
raw_value_of text a = drop a.value_start text

-- the view of an assignment: the offset of its name, the name, and the raw bytes of its value
pub record SeenAssignment : Type 0 where
  pub name_start : ℕ
  pub name : Name
  pub raw_value : Text

abbrev pub with_bytes : Text → AssignmentIndexes → SeenAssignment
with_bytes text a =
    record { name_start = a.name_start; name = name_of text a; raw_value = raw_value_of text a }

-- the assignment, if the text is one
abbrev pub assignment_of : Text → Option SeenAssignment
assignment_of text = option_map (with_bytes text) (assignment_indexes text)

-- The line assigns this value, without escapes, to this name, which begins at this offset.
abbrev pub Assigns : Text → Name → ℕ → Text → Type 0
Assigns text name start value =
    (a : SeenAssignment) × (assignment_of text ≡ Some a) × (a.name_start ≡ start) × (a.name ≡ name)
    × (value_of a.raw_value ≡ value)

-- The name has at least one byte and lies at its offset in the text. The value comes after the name
-- and extends to the end of the text.
pub record LiesIn (text : Text) (a : SeenAssignment) : Type 0 where
  pub some : 0 < length a.name
  pub between : Text
  pub whole : text ≡ take a.name_start text ++ (a.name ++ (between ++ a.raw_value))
