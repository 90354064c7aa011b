-- Which strings can begin a file name.
use Rattle.std.specs.Prelude.{Bool, false, not, ◌&&◌, ◌||◌, ◌==◌, [], ◌∷◌}
use Rattle.std.specs.List.{list_any}
use Rattle.ninja_text.specs.Bytes.{Text, slash, dot}
use Rattle.ninja_text.specs.Escapes.{is_unwritable}

-- Whether the string is not empty, does not begin with a dot, and contains no slash and no byte
-- that cannot be escaped. A component that begins with such a string is a name.
abbrev pub begins_component : Text → Bool
begins_component [] = false
begins_component (b ∷ bytes) =
    not (b == dot) && not (list_any (λ b. b == slash || is_unwritable b) (b ∷ bytes))
