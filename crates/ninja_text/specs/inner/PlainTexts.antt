-- Bytes that a text must not contain if it is to be read without finding its units.
use Rattle.std.specs.Prelude.{ℕ, Bool, not, ◌==◌, ◌||◌}
use Rattle.ninja_text.specs.Bytes.{nul, carriage_return, space, dollar, colon, vertical_bar}

-- in a text without this byte, each byte is a unit by itself
abbrev pub is_dollar : ℕ → Bool
is_dollar b = b == dollar

-- a text without these bytes has no lexical error
abbrev pub is_suspect : ℕ → Bool
is_suspect b = b == dollar || (b == nul || b == carriage_return)

-- whether a byte is a piece of a word by itself
abbrev pub is_plain_piece : ℕ → Bool
is_plain_piece b = not (b == dollar || (b == space || (b == colon || b == vertical_bar)))
