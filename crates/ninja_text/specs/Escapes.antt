-- How a path is escaped in a Ninja file, and what an escaped form stands for (Ninja 1.11 manual,
-- "Lexical syntax").
use Rattle.std.specs.Prelude.{◌≡◌, ◌≢◌, ℕ, Bool, false, not, ◌||◌, ◌==◌, if◌then◌else◌, IsTrue, ◌⊎◌, List, [], ◌∷◌, ◌++◌, replicate, All}
use Rattle.std.specs.List.{flat_map, concat, list_any, AllByRecursion}
use Rattle.ninja_text.specs.Bytes.{Byte, Text, PathText, nul, line_feed, carriage_return, space, dollar, colon, vertical_bar}

-- whether a byte cannot be escaped in a Ninja file: `|`, NUL, CR and LF
abbrev pub is_unwritable : ℕ → Bool
is_unwritable b = b == vertical_bar || (b == nul || (b == carriage_return || b == line_feed))

-- whether a path can be escaped in a Ninja file: it is not empty, and each byte can be escaped
abbrev pub is_writable : PathText → Bool
is_writable [] = false
is_writable (b ∷ bs) = not (list_any is_unwritable (b ∷ bs))

-- The path can be escaped in a Ninja file.
pub record IsWritable (path : PathText) : Type 0 where
  pub some : path ≢ []
  pub each : All (λ b. is_unwritable b ≡ false) path

-- whether a byte needs a `$` before it: `$`, space and `:`
abbrev pub is_escaped : ℕ → Bool
is_escaped b = b == dollar || (b == space || b == colon)

-- the escaped form of a byte
abbrev pub escaped_byte : Byte → Text
escaped_byte b = if is_escaped b then dollar ∷ b ∷ [] else b ∷ []

-- the escaped form of a path
abbrev pub escaped : PathText → Text
escaped path = flat_map escaped_byte path

-- A piece of a word stands for this byte: it is the byte itself, or `$` and the byte if needed.
abbrev pub IsPiece : Text → Byte → Type 0
IsPiece [] value = ⊥
IsPiece (b ∷ []) value = (b ≡ value) × IsTrue (not (is_escaped b || is_unwritable b))
IsPiece (d ∷ b ∷ []) value = (d ≡ dollar) × (b ≡ value) × IsTrue (is_escaped b)
IsPiece (d ∷ b ∷ c ∷ more) value = ⊥

-- a continuation: `$`, a line end, and the spaces at the start of the next line
abbrev pub IsContinuation : Text → Type 0
IsContinuation bytes =
    (spaces : ℕ) × ((bytes ≡ dollar ∷ line_feed ∷ replicate spaces space)
    ⊎ (bytes ≡ dollar ∷ carriage_return ∷ line_feed ∷ replicate spaces space))

-- any number of continuations, one after another
abbrev pub IsGap : Text → Type 0
IsGap bytes = (parts : List Text) × AllByRecursion IsContinuation parts × (bytes ≡ concat parts)

-- The raw text of a word stands for this value: it has a piece for each byte of the value, and a
-- gap between any two pieces. The value has at least one byte.
abbrev pub Spells : Text → PathText → Type 0
Spells raw [] = ⊥
Spells raw (b ∷ []) = IsPiece raw b
Spells raw (b ∷ c ∷ cs) = (piece : Text) × (gap : Text) × (rest : Text)
    × IsPiece piece b × IsGap gap × Spells rest (c ∷ cs) × (raw ≡ piece ++ (gap ++ rest))
