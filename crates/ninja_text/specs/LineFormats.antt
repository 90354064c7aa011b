-- Formats whose texts consist of lines, each with a class: which value a text stands for, and which
-- error it has otherwise.
use Rattle.std.specs.Prelude.{◌≡◌, ◌⊎◌, ◌≤◌, ℕ, Bool, List, [], ◌∷◌, ◌++◌, length}
use Rattle.std.specs.List.{flat_map, AllByRecursion}
use Rattle.ninja_text.specs.Bytes.{Bytes, Text}
use Rattle.ninja_text.specs.Lines.{line_limit, IsLine, Divides, text_of_line, is_comment, number_after, LogicalLine}

-- A line format, given by the classes of its lines.
pub record LineFormat (Class Value : Type 0) : Type 1 where
  -- a line has this class, given its text without the end, and whether it is a comment
  pub text_is_of : Text → Bool → Class → Type 0
  -- lines of these classes are a complete text that stands for this value
  pub grammar : List Class → Value → Type 0

-- The line, including its end, is not too long and has this class.
abbrev pub IsOfClass : {Class Value : Type 0} → LineFormat Class Value → Text → Class
    → Type 0
IsOfClass format line c =
    (length line ≤ line_limit) × format.text_is_of (text_of_line line) (is_comment line) c

-- The lines have these classes, one by one, and none is too long.
abbrev pub AreOfClasses : {Class Value : Type 0} → LineFormat Class Value
    → List Text → List Class → Type 0
AreOfClasses format [] [] = Unit {0}
AreOfClasses format (line ∷ lines) (c ∷ classes) =
    IsOfClass format line c × AreOfClasses format lines classes
AreOfClasses format [] (c ∷ classes) = ⊥
AreOfClasses format (line ∷ lines) [] = ⊥

-- The lines, given by their views, have these classes, one by one.
abbrev pub AreTextsOfClasses : {Class Value : Type 0} → LineFormat Class Value
    → List LogicalLine → List Class → Type 0
AreTextsOfClasses format [] [] = Unit {0}
AreTextsOfClasses format (line ∷ lines) (c ∷ classes) =
    format.text_is_of line.text line.comment c × AreTextsOfClasses format lines classes
AreTextsOfClasses format [] (c ∷ classes) = ⊥
AreTextsOfClasses format (line ∷ lines) [] = ⊥

-- Some text of the format begins with lines of these classes.
abbrev pub Begins : {Class Value : Type 0} → LineFormat Class Value → List Class
    → Type 0
Begins {Class} {Value} format classes =
    (more : List Class) × (value : Value) × format.grammar (classes ++ more) value

-- The text stands for this value: it consists of lines, with no bytes left over, and the classes of
-- the lines stand for the value.
pub record StandsForValue {Class Value : Type 0} (format : LineFormat Class Value) (bytes : Bytes)
    (value : Value) : Type 0 where
  pub lines : List Text
  pub classes : List Class
  pub divided : Divides bytes lines []
  pub classed : AreOfClasses format lines classes
  pub grammar : format.grammar classes value

-- ---- errors

-- After lines of these classes, no text of the format continues with this line.
abbrev pub IsFaultyAfter : {Class Value : Type 0} → LineFormat Class Value
    → List Class → Text → Type 0
IsFaultyAfter {Class} format classes line =
    (c : Class) → IsOfClass format line c → Begins format (classes ++ c ∷ []) → ⊥

-- The errors of a format: those of a line that comes after lines of these classes, and those of the
-- end of a text, if these bytes are left over after lines of these classes.
pub record LineFaults (Class Fault : Type 0) : Type 1 where
  pub of_line : List Class → Text → Fault → Type 0
  pub of_end : List Class → Bytes → Fault → Type 0

-- The first faulty line of the text has this number and this error. Some text of the format begins
-- with the lines before it, but none continues with this line. The number is that of its first
-- physical line. Any bytes may follow it.
pub record FaultyLine {Class Value Fault : Type 0} (format : LineFormat Class Value)
    (faults : LineFaults Class Fault) (bytes : Bytes) (line_number : ℕ) (fault : Fault)
    : Type 0 where
  pub before : List Text
  pub line : Text
  pub after : Bytes
  pub classes : List Class
  pub whole : bytes ≡ flat_map (λ line. line) (before ++ line ∷ []) ++ after
  pub each : AllByRecursion IsLine (before ++ line ∷ [])
  pub classed : AreOfClasses format before classes
  pub begun : Begins format classes
  pub faulty : IsFaultyAfter format classes line
  pub number : line_number ≡ number_after (flat_map (λ line. line) before)
  pub reason : faults.of_line classes line fault

-- No line of the text is faulty, but its end is. The number is that of the line that would come
-- after the last complete line.
pub record FaultyEnd {Class Value Fault : Type 0} (format : LineFormat Class Value)
    (faults : LineFaults Class Fault) (bytes : Bytes) (line_number : ℕ) (fault : Fault)
    : Type 0 where
  pub lines : List Text
  pub rest : Bytes
  pub classes : List Class
  pub divided : Divides bytes lines rest
  pub classed : AreOfClasses format lines classes
  pub begun : Begins format classes
  pub number : line_number ≡ number_after (flat_map (λ line. line) lines)
  pub reason : faults.of_end classes rest fault

-- The text has this error, in a line or at its end.
abbrev pub HasFault : {Class Value Fault : Type 0} → LineFormat Class Value
    → LineFaults Class Fault → Bytes → ℕ → Fault → Type 0
HasFault format faults bytes line_number fault =
    FaultyLine format faults bytes line_number fault
    ⊎ FaultyEnd format faults bytes line_number fault

-- The premises of the laws of a format: each line and each end has one meaning or one error, and
-- not both.
pub record IsDecided {Class Value Fault : Type 0} (format : LineFormat Class Value)
    (faults : LineFaults Class Fault) : Type 0 where
  -- the format has at least one text
  pub starts : Begins format []
  -- a line has at most one class
  pub one_class : (text : Text) (comment : Bool) (c d : Class) → format.text_is_of text comment c
      → format.text_is_of text comment d → c ≡ d
  -- lines of these classes stand for at most one value
  pub one_value : (classes : List Class) (v w : Value) → format.grammar classes v
      → format.grammar classes w → v ≡ w
  -- either a text continues with this line, or no text does and the line has an error
  pub line : (classes : List Class) (line : Text) → Begins format classes
      → ((c : Class) × IsOfClass format line c × Begins format (classes ++ c ∷ []))
      ⊎ ((fault : Fault) × faults.of_line classes line fault × IsFaultyAfter format classes line)
  pub one_line_fault : (classes : List Class) (line : Text) (fault other : Fault)
      → faults.of_line classes line fault → faults.of_line classes line other → fault ≡ other
  -- the text may end here with nothing left over, or its end has an error
  pub end : (classes : List Class) (rest : Bytes) → Begins format classes
      → ((rest ≡ []) × (value : Value) × format.grammar classes value)
      ⊎ ((fault : Fault) × faults.of_end classes rest fault)
  pub not_both_at_end : (classes : List Class) (value : Value) (fault : Fault)
      → format.grammar classes value → faults.of_end classes [] fault → ⊥
  pub one_end_fault : (classes : List Class) (rest : Bytes) (fault other : Fault)
      → faults.of_end classes rest fault → faults.of_end classes rest other → fault ≡ other
