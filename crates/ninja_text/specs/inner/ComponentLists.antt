-- Lists of components and their strings, for the functions that make a path canonical.
use Rattle.std.specs.Prelude.{◌≡◌, ℕ, ◌+◌, Bool, false, ◌&&◌, ◌==◌, if◌then◌else◌, List, [], ◌∷◌, ◌++◌}
use Rattle.std.specs.List.{join_with_byte, AllByRecursion}
use Rattle.ninja_text.specs.Bytes.{Component, slash, dot}
use Rattle.ninja_text.specs.PathShape.{parts}

-- the components of a path
abbrev pub Components : Type 0
Components = List Component

-- the component contains no slash
abbrev pub LacksSlash : List ℕ → Type 0
LacksSlash component = AllByRecursion (λ b. (b == slash) ≡ false) component

-- no component of the list contains a slash
abbrev pub EachLacksSlash : Components → Type 0
EachLacksSlash list = AllByRecursion LacksSlash list

-- the components of a list, joined with slashes
abbrev pub list_text : Components → List ℕ
list_text list = join_with_byte slash list

-- the components of a path after reduction, joined with slashes
abbrev pub reduced_text : List ℕ → List ℕ
reduced_text text = list_text (parts text)

-- the string of a list with one more component at the end
abbrev pub appended : List ℕ → List ℕ → List ℕ
appended [] component = component
appended (b ∷ bs) component = (b ∷ bs) ++ slash ∷ component

-- whether the first component is `..`
abbrev pub leads_up : List ℕ → Bool
leads_up [] = false
leads_up (a ∷ []) = false
leads_up (a ∷ b ∷ []) = a == dot && b == dot
leads_up (a ∷ b ∷ c ∷ bytes) = a == dot && (b == dot && c == slash)

-- the offsets of the slashes, if the first byte has this offset
abbrev pub slashes_from : ℕ → List ℕ → List ℕ
slashes_from start [] = []
slashes_from start (b ∷ bytes) =
    if b == slash then start ∷ slashes_from (start + 1) bytes else slashes_from (start + 1) bytes
