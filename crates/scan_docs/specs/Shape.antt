-- The members of a JSON object, read as values of the shape that they should have.
use Rattle.std.specs.Prelude.{ℕ, List, [], ◌∷◌, Bool, ◌||◌, if◌then◌else◌, Option, Some, None, is_some, is_none, unwrap_or, option_map, option_and_then}
use Rattle.ninja_text.specs.Bytes.{Text}
use Rattle.serde_json.specs.Data.{Data, Items, no_items, item}
use Rattle.serde_json.specs.Find.{get, as_null, as_str, as_bool, as_array, as_object, as_number, as_u64}
use Rattle.scan_docs.specs.declared.member.Member.{Member}
use Rattle.scan_docs.specs.Member.{key}

-- the value is an object
abbrev pub is_object : Data → Bool
is_object d = is_some (as_object d)

-- the value, or None if it is null
abbrev unless_null : Data → Option Data
unless_null d = if is_some (as_null d) then None else Some d

-- the member's value, or None if it is absent or null
abbrev pub given : Member → Data → Option Data
given member d = option_and_then unless_null (get (key member) d)

-- the member's value, if it is a string
abbrev pub text : Member → Data → Option Text
text member d = option_and_then as_str (given member d)

-- the member's value, if it is a boolean
abbrev pub flag : Member → Data → Option Bool
flag member d = option_and_then as_bool (given member d)

-- the entries of an array
abbrev pub elements : Items → List Data
elements no_items = []
elements (item d ds) = d ∷ elements ds

-- the member's entries, if it is an array
abbrev pub entries : Member → Data → Option (List Data)
entries member d = option_map elements (option_and_then as_array (given member d))

-- the values as strings, if all of them are strings
abbrev pub all_texts : List Data → Option (List Text)
all_texts [] = Some []
all_texts (d ∷ ds) = option_and_then (λ t. option_map (λ ts. t ∷ ts) (all_texts ds)) (as_str d)

-- the member's strings, if it is an array of strings
abbrev pub texts : Member → Data → Option (List Text)
texts member d = option_and_then all_texts (entries member d)

-- the member's value, if it is a whole number
abbrev pub whole_number : Member → Data → Option ℕ
whole_number member d = option_and_then as_u64 (option_and_then as_number (get (key member) d))

-- the member is absent, null or of this shape
abbrev pub fits : {A : Type 0} → (Member → Data → Option A) → Member → Data → Bool
fits shape member d = is_none (given member d) || is_some (shape member d)

-- the member's string, or the empty string
abbrev pub text_of : Member → Data → Text
text_of member d = unwrap_or (text member d) []

-- the member's entries, or an empty list
abbrev pub entries_of : Member → Data → List Data
entries_of member d = unwrap_or (entries member d) []

-- the member's strings, or an empty list
abbrev pub texts_of : Member → Data → List Text
texts_of member d = unwrap_or (texts member d) []
