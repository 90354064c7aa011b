-- Which strings are valid names of modules and of targets.
use Rattle.std.specs.Prelude.{◌≡◌, ℕ, [], ◌∷◌, length, count_by, Bool, true, not, ◌&&◌, ◌||◌, ◌==◌, nat_le, nat_lt, IsUtf8}
use Rattle.std.specs.List.{list_all, list_any, slice_split}
use Rattle.ninja_text.specs.Bytes.{Bytes, Text, Name, space, double_quote, dollar, single_quote, dot, slash, colon, equals_sign, backslash, vertical_bar, delete}

-- the maximum length of a name in bytes
abbrev pub name_limit : ℕ
name_limit = 1024

-- whether a byte separates parts of a module's name: `.` and `:`
abbrev pub is_separator : ℕ → Bool
is_separator b = (b == dot) || (b == colon)

-- `/`, `\`, `"`, `'`, `=`, `|` and `$`, which no module's name contains
abbrev pub reserved_bytes : Bytes
reserved_bytes =
    slash ∷ backslash ∷ double_quote ∷ single_quote ∷ equals_sign ∷ vertical_bar ∷ dollar ∷ []

-- whether a module's name may contain this byte: all bytes except control bytes, space, 127 and the
-- reserved ones; bytes from 128 on are allowed
abbrev pub is_name_byte : ℕ → Bool
is_name_byte b =
    nat_lt space b && not (b == delete) && not (list_any (λ r. b == r) reserved_bytes)

-- whether a part is not empty
abbrev pub is_not_empty : Text → Bool
is_not_empty part = nat_lt 0 (length part)

-- A module's name. It has one colon at most, before a partition, and no part between separators is
-- empty.
unfoldable pub is_name : Text → Bool
is_name text =
    nat_le 1 (length text) && nat_le (length text) name_limit
    && nat_le (count_by (λ b. b == colon) text) 1
    && list_all is_not_empty (slice_split is_separator text)
    && list_all is_name_byte text

-- A target's name. It is not empty and not too long, and has no control byte and no 127.
unfoldable pub is_target_name : Text → Bool
is_target_name text =
    nat_le 1 (length text) && nat_le (length text) name_limit
    && list_all (λ b. nat_le space b && not (b == delete)) text

-- the string is a valid name of a module and UTF-8, as in JSON
pub record IsName (name : Name) : Type 0 where
  pub accepted : is_name name ≡ true
  pub utf8 : IsUtf8 name

-- the string is a valid name of a target and UTF-8
pub record IsTargetName (name : Name) : Type 0 where
  pub accepted : is_target_name name ≡ true
  pub utf8 : IsUtf8 name
