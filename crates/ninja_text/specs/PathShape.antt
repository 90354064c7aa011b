-- The parts of a canonical path.
use Rattle.std.specs.Prelude.{◌≡◌, ◌≢◌, ℕ, ◌≤◌, true, List, [], length, drop, All}
use Rattle.std.specs.List.{prefix_len}
use Rattle.ninja_text.specs.Bytes.{PathText, Component}
use Rattle.ninja_text.specs.Escapes.{IsWritable}
use Rattle.ninja_text.specs.Reduction.{components, is_parent, is_named_component, reduced}
use Rattle.ninja_text.specs.Paths.{is_rooted, path_text, path_limit}

-- the components of a path after reduction; the slash of an absolute path adds none
abbrev pub parts : PathText → List Component
parts path = reduced (components path)

-- the number of `..` at the front of a path
abbrev pub parents : PathText → ℕ
parents path = prefix_len is_parent (parts path)

-- the components after these `..`
abbrev pub names : PathText → List Component
names path = drop (parents path) (parts path)

-- A canonical path is either a slash or any number of `..`, followed by names. It has at least one
-- component, can be escaped, and is not too long.
pub record IsShaped (path : PathText) : Type 0 where
  pub text : path ≡ path_text (is_rooted path) (parts path)
  pub some : parts path ≢ []
  pub named : All (λ name. is_named_component name ≡ true) (names path)
  pub below_root : is_rooted path ≡ true → parents path ≡ 0
  pub writable : IsWritable path
  pub short : length path ≤ path_limit
