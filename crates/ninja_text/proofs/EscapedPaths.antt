-- Which paths can be escaped, and what the escaped form is and stands for.
use Rattle.std.proofs.lemmas.Grind.{common_steps}
use Rattle.ninja_text.specs.Bytes.{Bytes}
use Rattle.std.proofs.Common.{◌≡◌, ℕ, Bool, true, false, not, ◌==◌, IsTrue, ◌↔◌, List, [], ◌∷◌, length, refl, ap, map, arith, rules}
use Rattle.std.specs.Prelude.{if◌then◌else◌}
use Rattle.std.specs.List.{list_any, list_all, AllByRecursion}
use Rattle.std.proofs.lemmas.List.Elements.{recursion_from_All}
use Rattle.std.proofs.lemmas.Bool.{or_parts}
use Rattle.std.proofs.lemmas.List.Folds.{list_any_none}
use Rattle.ninja_text.specs.Escapes.{is_unwritable, is_writable, IsWritable, is_escaped, escaped_byte, escaped}
use Rattle.ninja_text.specs.declared.lexing.LineUnit.{LineUnit}
use Rattle.ninja_text.specs.declared.lexing.LineUnit.TheVariants.{Escape, Byte}
use Rattle.ninja_text.specs.Tokens.{is_piece, value_of}
use Rattle.ninja_text.proofs.Spelling.{spells_read, escaped-spells}
use Rattle.ninja_text.proofs.SpelledUnits.{is_sound, unit_text, text_of_units}

-- ---- the test of what can be escaped means what the record says

-- if the test holds, the record does
writable_record : (path : Bytes) → IsTrue (is_writable path) → IsWritable path
writable_record [] h = cc
writable_record (b ∷ bs) h = grind (arith, common_steps)

-- if the record holds, the test does
writable_test : (path : Bytes) → IsWritable path → IsTrue (is_writable path)
writable_test [] w = absurd (w.some refl)
writable_test (b ∷ bs) w = search (rules, list_any_none)

-- so the test means what the record says
pub writable : (path : Bytes) → IsTrue (is_writable path) ↔ IsWritable path
writable path = (writable_record path, writable_test path)

-- the result of the test at a path that has a byte
pub some_byte : (path : Bytes) (found : Bool) → (length path == 0) ≡ false → found ≡ list_any is_unwritable path → not found ≡ is_writable path
some_byte [] found h e = cc
some_byte (b ∷ bs) found h e = ap not e

-- ---- the units of a path in its escaped form

-- the unit that a byte of a path is escaped as
abbrev pub path_unit : ℕ → LineUnit
path_unit b = if is_escaped b then Escape b else Byte b

abbrev pub path_units : Bytes → List LineUnit
path_units path = map path_unit path

-- no byte that cannot be escaped
abbrev HasSpelling : Bytes → Type 0
HasSpelling path = AllByRecursion (λ b. is_unwritable b ≡ false) path

pub has_spelling : (path : Bytes) → IsWritable path → HasSpelling path
has_spelling path w = grind (arith, recursion_from_All)

-- they are its escaped form
byte_text : (b : ℕ) → unit_text (path_unit b) ≡ escaped_byte b
byte_text b = search rules

pub path_text : (path : Bytes) → text_of_units (path_units path) ≡ escaped path
path_text [] = refl
path_text (b ∷ path) = rw (byte_text b, path_text path) refl

-- a byte that is not escaped, and can be escaped
record Ordinary (b : ℕ) : Type 0 where
  no_dollar : (b == 36) ≡ false
  no_space : (b == 32) ≡ false
  no_colon : (b == 58) ≡ false
  no_bar : (b == 124) ≡ false
  no_nul : (b == 0) ≡ false
  no_return : (b == 13) ≡ false
  no_feed : (b == 10) ≡ false

ordinary : (b : ℕ) → is_escaped b ≡ false → is_unwritable b ≡ false → Ordinary b
ordinary b e u =
    grind (arith, common_steps)

-- the units of a path are sound, and pieces of a word
pub path_sound : (path : Bytes) → HasSpelling path → list_all is_sound (path_units path) ≡ true
path_sound [] can = refl
path_sound (b ∷ path) can = grind (arith, common_steps, path_sound path can.1)

byte_piece : (b : ℕ) → is_unwritable b ≡ false → is_piece (path_unit b) ≡ true
byte_piece b u = grind (arith, common_steps)

pub path_pieces : (path : Bytes) → HasSpelling path → list_all is_piece (path_units path) ≡ true
path_pieces [] can = refl
path_pieces (b ∷ path) can = grind (arith, common_steps, path_pieces path can.1)

-- a path without such a byte is its own escaped form
pub escaped_none : (path : Bytes) → list_any is_escaped path ≡ false → escaped path ≡ path
escaped_none [] none = refl
escaped_none (b ∷ path) none =
    let p = or_parts (is_escaped b) (list_any is_escaped path) none in
    cc (escaped_none path p.1)

-- what is read of an escaped path is the path
pub value_of_escaped : (path : Bytes) → IsWritable path → value_of (escaped path) ≡ path
value_of_escaped path w = search (rules, spells_read, escaped-spells, has_spelling)
