-- How the canonical list of a path that is read in a directory is made from the lists of both.
use Rattle.std.specs.Prelude.{◌≡◌, ◌-◌, ℕ, ◌+◌, Bool, true, false, List, [], ◌∷◌, ◌++◌, length, take, ◌≤◌, Option, Some, None, position}
use Rattle.std.specs.List.{prefix_len}
use Rattle.ninja_text.specs.Bytes.{Component, slash}
use Rattle.ninja_text.specs.Escapes.{is_unwritable}
use Rattle.ninja_text.specs.Reduction.{is_parent, reduced, components}
use Rattle.ninja_text.specs.Paths.{is_rooted, path_limit}
use Rattle.ninja_text.specs.PathShape.{parts}
use Rattle.ninja_text.specs.inner.ComponentLists.{list_text, reduced_text, EachLacksSlash, slashes_from}
use Rattle.ninja_text.specs.declared.fault.PathFault.{PathFault}
use Rattle.ninja_text.specs.declared.fault.PathFault.TheVariants.{AboveRoot, Unwritable, TooLong}

-- What a `WorkDirectory` stores: its canonical list, the offsets of its slashes, the number of
-- names after its `..`, and the offset of the directory's first byte that cannot be escaped.
pub record IsDirectory (text list slashes : List ℕ) (names : ℕ) (unwritable : Option ℕ)
    : Type 0 where
  pub list_is : list ≡ reduced_text text
  pub slashes_are : slashes ≡ slashes_from 0 list
  pub names_are : names ≡ length (parts text) - prefix_len is_parent (parts text)
  pub unwritable_is : unwritable ≡ position is_unwritable text

-- a canonical list, its string, and the number of `..` at its front
pub record IsList (list : List Component) (own : List ℕ) (parents : ℕ) : Type 0 where
  pub fixed : reduced list ≡ list
  pub lacks : EachLacksSlash list
  pub own_is : own ≡ list_text list
  pub parents_are : parents ≡ prefix_len is_parent list

-- What is known of a string: whether it is absolute, the offset of its first byte that cannot be
-- escaped, and the string of its canonical list.
pub record IsListOf (text : List ℕ) (rooted : Bool) (unwritable : Option ℕ) (list : List ℕ)
    : Type 0 where
  pub rooted_is : rooted ≡ is_rooted text
  pub unwritable_is : unwritable ≡ position is_unwritable text
  pub list_is : list ≡ reduced_text text

-- The components of `text` are those of the directory, followed by a canonical list and reduced
-- together. `own` is the string of this list.
pub record IsReadIn (directory text own : List ℕ) (parents : ℕ) (unwritable : Option ℕ)
    : Type 0 where
  pub list : List Component
  pub is_list : IsList list own parents
  pub whole : parts text ≡ reduced (parts directory ++ list)
  pub rooted : is_rooted text ≡ is_rooted directory
  pub unwritable_is : unwritable ≡ position is_unwritable text

-- the strings of two lists, joined with a slash if neither is empty
abbrev pub glued : List ℕ → List ℕ → List ℕ
glued [] rest = rest
glued (b ∷ bytes) [] = b ∷ bytes
glued (b ∷ bytes) (c ∷ rest) = (b ∷ bytes) ++ slash ∷ c ∷ rest

-- the maximum length of a list that may still be a path, since a build directory may be taken off
abbrev pub list_limit : Option (List ℕ) → ℕ
list_limit None = path_limit
list_limit (Some build) = path_limit + length build

-- the error of a list that is too long: N2 if it leads above the root, N3 if a byte cannot be
-- escaped, and otherwise N4
abbrev pub long_fault : Bool → Option ℕ → PathFault
long_fault true unwritable = AboveRoot
long_fault false (Some place) = Unwritable place
long_fault false None = TooLong

-- the first offset, if there is one; otherwise the second one, which counts from `from`
abbrev pub moved : Option ℕ → ℕ → Option ℕ → Option ℕ
moved (Some place) from later = Some place
moved None from None = None
moved None from (Some place) = Some (from + place)

-- the offset of the first byte that cannot be escaped in a path that is read in this directory
abbrev pub first_in : List ℕ → Option ℕ → Option ℕ
first_in [] later = later
first_in (b ∷ bytes) later =
    moved (position is_unwritable (b ∷ bytes)) (length (b ∷ bytes) + 1) later

-- What a `NameEnding` stores: the length of its first component, the canonical list of the others,
-- the number of `..` at the front of this list, and the offset of the first byte that cannot be
-- escaped.
pub record IsEnding (text : List ℕ) (first : ℕ) (list : List ℕ) (parents : ℕ)
    (unwritable : Option ℕ) : Type 0 where
  pub others : List Component
  pub within : first ≤ length text
  pub divided : components text ≡ take first text ∷ others
  pub list_is : IsList (reduced others) list parents
  pub unwritable_is : unwritable ≡ position is_unwritable text
