-- What a string means as a path: a canonical path, or the reason why it is not a valid path.
use Rattle.std.specs.Prelude.{◌≡◌, ℕ, Bool, true, false, ◌&&◌, ◌||◌, ◌==◌, if◌then◌else◌, nat_lt, bytes_eq, List, [], ◌∷◌, ◌++◌, length, Option, Some, None, Result, Ok, Err, position}
use Rattle.std.specs.List.{join_with_byte, list_any}
use Rattle.ninja_text.specs.Bytes.{PathText, Component, slash}
use Rattle.ninja_text.specs.Escapes.{is_unwritable}
use Rattle.ninja_text.specs.Reduction.{components, is_parent, reduced}
use Rattle.ninja_text.specs.declared.fault.PathFault.{PathFault}
use Rattle.ninja_text.specs.declared.fault.PathFault.TheVariants.{Empty, AboveRoot, Unwritable, TooLong}

-- whether a list has no elements
abbrev pub is_empty : {X : Type 0} → List X → Bool
is_empty [] = true
is_empty (x ∷ xs) = false

-- whether a path is absolute: it begins with a slash
abbrev pub is_rooted : PathText → Bool
is_rooted [] = false
is_rooted (b ∷ bs) = b == slash

-- the path with these components, absolute or not
abbrev pub path_text : Bool → List Component → PathText
path_text rooted list =
    if rooted then slash ∷ join_with_byte slash list else join_with_byte slash list

-- the string that is read: a relative path is put after the work directory, if that is not empty
abbrev pub read_from : Option PathText → PathText → PathText
read_from None path = path
read_from (Some work) path = if is_empty work || is_rooted path then path else work ++ slash ∷ path

-- the components below a directory, if the list begins with the directory's components and has more
abbrev pub below : List Component → List Component → Option (List Component)
below [] [] = None
below [] (c ∷ cs) = Some (c ∷ cs)
below (d ∷ ds) [] = None
below (d ∷ ds) (c ∷ cs) = if bytes_eq d c then below ds cs else None

-- the relative path of the components below a directory; otherwise the absolute path of all of them
abbrev pub relative_or : List Component → Option (List Component) → PathText
relative_or list None = path_text true list
relative_or list (Some rest) = path_text false rest

-- the path of a canonical list, seen from a build directory: relative if it lies below it
abbrev pub seen_from : Option PathText → Bool → List Component → PathText
seen_from None rooted list = path_text rooted list
seen_from (Some build) rooted list =
    if rooted then relative_or list (below (reduced (components build)) list)
    else path_text false list

-- the maximum length of a canonical path in bytes
abbrev pub path_limit : ℕ
path_limit = 4096

-- the path, unless it is too long or the string has, at this offset, a byte that cannot be escaped
abbrev pub checked : Option ℕ → PathText → Result PathText PathFault
checked (Some place) path = Err (Unwritable place)
checked None path = if nat_lt path_limit (length path) then Err TooLong else Ok path

-- the canonical path of a string, seen from a build directory, or the first error in the order of
-- the codes
unfoldable pub canonical_of : Option PathText → PathText → Result PathText PathFault
canonical_of build text =
    let list = reduced (components text) in
    if is_empty list then Err Empty
    else (if is_rooted text && list_any is_parent list then Err AboveRoot
    else checked (position is_unwritable text) (seen_from build (is_rooted text) list))

-- the canonical path of a string, or its error
abbrev pub path_of : PathText → Result PathText PathFault
path_of text = canonical_of None text

-- The canonical path of a string that is read in a work directory and seen from a build directory.
-- An empty string is an error.
unfoldable pub placed : Option PathText → Option PathText → PathText → Result PathText PathFault
placed work build path =
    if is_empty path then Err Empty else canonical_of build (read_from work path)

-- the string is a canonical path: it means itself
abbrev pub IsPath : PathText → Type 0
IsPath text = path_of text ≡ Ok text
