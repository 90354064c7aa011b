-- The units that a line is made of (Ninja 1.11 manual, "Lexical syntax"): line continuations,
-- escapes, and single bytes.
use Rattle.std.specs.Prelude.{ℕ, ◌+◌, Bool, true, false, ◌==◌, ◌&&◌, ◌||◌, if◌then◌else◌, nat_le, List, [], ◌∷◌}
use Rattle.ninja_text.specs.Bytes.{Bytes, line_feed, carriage_return, space, dollar, digit_zero, digit_nine, capital_a, capital_z, small_a, small_z}
use Rattle.ninja_text.specs.declared.lexing.LineUnit.{LineUnit}
use Rattle.ninja_text.specs.declared.lexing.LineUnit.TheVariants.{Continuation, Escape, Byte}

abbrev pub is_digit : ℕ → Bool
is_digit b = nat_le digit_zero b && nat_le b digit_nine

abbrev pub is_letter : ℕ → Bool
is_letter b =
    (nat_le capital_a b && nat_le b capital_z) || (nat_le small_a b && nat_le b small_z)

-- the number of bytes of a unit
abbrev pub unit_len : LineUnit → ℕ
unit_len (Continuation len) = len
unit_len (Escape b) = 2
unit_len (Byte b) = 1

-- whether a unit is this single byte, not escaped
abbrev pub is_byte : ℕ → LineUnit → Bool
is_byte c (Byte b) = b == c
is_byte c (Escape b) = false
is_byte c (Continuation len) = false

abbrev pub is_continuation : LineUnit → Bool
is_continuation (Continuation len) = true
is_continuation (Escape b) = false
is_continuation (Byte b) = false

-- Puts a continuation of `len` bytes in front of units, and adds the spaces at their front to it.
abbrev pub with_continuation : ℕ → List LineUnit → List LineUnit
with_continuation len [] = Continuation len ∷ []
with_continuation len (Byte b ∷ us) =
    if b == space then with_continuation (len + 1) us else Continuation len ∷ Byte b ∷ us
with_continuation len (Escape b ∷ us) = Continuation len ∷ Escape b ∷ us
with_continuation len (Continuation more ∷ us) = Continuation len ∷ Continuation more ∷ us

abbrev pub LineUnits : Type 0
LineUnits = List LineUnit

-- The units of a text, from left to right. `$` LF and `$` CR LF, with all spaces after them, are a
-- continuation. `$` and any other byte are an escape. Every other byte is a unit by itself, and so
-- is a `$` at the very end.
abbrev pub units : Bytes → List LineUnit
units [] = []
units (a ∷ []) = Byte a ∷ []
units (a ∷ b ∷ []) =
    if a == dollar then
    (if b == line_feed then Continuation 2 ∷ []
    else Escape b ∷ [])
    else Byte a ∷ units (b ∷ [])
units (a ∷ b ∷ c ∷ bytes) =
    if a == dollar then
    (if b == line_feed then with_continuation 2 (units (c ∷ bytes))
    else if (b == carriage_return) && (c == line_feed) then with_continuation 3 (units bytes)
    else Escape b ∷ units (c ∷ bytes))
    else Byte a ∷ units (b ∷ c ∷ bytes)
