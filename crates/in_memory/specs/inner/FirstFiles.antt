-- A table with the first file of each name.
use Rattle.std.specs.Prelude.{◌≡◌, List, Option}
use Rattle.std.specs.Borrow.{Bor}
use Rattle.std.specs.Option.{option_copied}
use Rattle.std.specs.BTreeMap.{BTreeMap, get_by}
use Rattle.std.specs.Cmp.Lexicographic.{slice_cmp}
use Rattle.std.specs.Ordering.{nat_cmp}
use Rattle.ninja_text.specs.Bytes.{Bytes, PathText}
use Rattle.in_memory.specs.Given.{GivenFile, bytes_named}

-- the bytes that a table has for a name
abbrev pub first_named : BTreeMap (Bor PathText) (Bor Bytes) → PathText → Option Bytes
first_named first name = option_copied (get_by (λ k. slice_cmp nat_cmp name k.now) first)

-- for each name, the table has the bytes of the first file with that name
abbrev pub AreFirst : BTreeMap (Bor PathText) (Bor Bytes) → List GivenFile → Type 0
AreFirst first files = (name : PathText) → first_named first name ≡ bytes_named files name
