use Rattle.ninja_text.specs.Bytes.{Bytes}
use Rattle.std.proofs.Common.{◌==◌, false, ◌≡◌, ℕ, ◌+◌, ◌-◌, ◌<◌, [], ◌∷◌, length, take, drop, slice_index_or, arith, length-drop, ap, sym, refl, ◌∙◌}
use Rattle.std.proofs.lemmas.Grind.{common_steps}
use Rattle.std.proofs.lemmas.List.{drop-drop}
use Rattle.std.proofs.lemmas.Bool.Decides.{nat_tests}
use Rattle.ninja_text.specs.Units.{units}
use Rattle.ninja_text.specs.inner.Runs.{spaces_at}
use Rattle.ninja_text.specs.declared.lexing.LineUnit.{LineUnit}
use Rattle.ninja_text.specs.declared.lexing.LineUnit.TheVariants.{Byte, Escape}
use Rattle.ninja_text.proofs.Units.{units_byte, units_pair, units_return, continuation_at, return_continuation_at}
use Rattle.ninja_text.proofs.Lists.{to_the_end}
use Rattle.ninja_text.proofs.lexing.unit_at.Goals as goal

-- what a text has from an index on
abbrev from : Bytes → ℕ → Bytes
from text index = take (length text - index) (drop index text)

from_some : (text : Bytes) (index : ℕ) → index < length text → 0 < length (from text index)
from_some text index within = omega (arith, length-drop index text, ap length (to_the_end index text))

-- the unit at the front there is that at the index
at_index : (text : Bytes) (index n : ℕ) (u : LineUnit) → units (from text index) ≡ u ∷ units (drop n (from text index)) →
    units (drop index text) ≡ u ∷ units (drop (index + n) text)
at_index text index n u front =
    ap units (sym (to_the_end index text)) ∙ front ∙ ap (λ bytes. u ∷ units (drop n bytes)) (to_the_end index text) ∙
    ap (λ bytes. u ∷ units bytes) (drop-drop n index text)

pub returns-in-36-2-clause-first : goal.returns-in-36-2-clause-first
returns-in-36-2-clause-first c =
    let bytes = from c.args.text.now c.args.index in
    at_index c.args.text.now c.args.index (3 + c.leading_spaces.result) _
    (return_continuation_at bytes c.leading_spaces.result c.in-36-2.len_at_least (omega arith) (omega arith) (omega arith)
    (c.leading_spaces.ensures.value ∙ ap spaces_at (to_the_end 3 bytes)))

not_byte : (b c : ℕ) → (b ≡ c → ⊥) → (b == c) ≡ false
not_byte b c h = grind (arith, nat_tests, h)

-- a byte other than `$` is a unit, and so is the last byte
byte_first : (bytes : Bytes) → 0 < length bytes → (1 < length bytes → slice_index_or bytes 0 0 ≡ 36 → ⊥) →
    units bytes ≡ Byte (slice_index_or bytes 0 0) ∷ units (drop 1 bytes)
byte_first [] some other = absurd (omega arith)
byte_first (b ∷ []) some other = refl
byte_first (b ∷ c ∷ bytes) some other = units_byte b (c ∷ bytes) (not_byte b 36 (other (omega arith)))

-- `$` and another byte are an escape, unless a line's end follows the `$`
escape_first : (bytes : Bytes) → 1 < length bytes → slice_index_or bytes 0 0 ≡ 36 → (slice_index_or bytes 1 0 ≡ 10 → ⊥) →
    (2 < length bytes → slice_index_or bytes 1 0 ≡ 13 → slice_index_or bytes 2 0 ≡ 10 → ⊥) →
    units bytes ≡ Escape (slice_index_or bytes 1 0) ∷ units (drop 2 bytes)
escape_first [] long first second third = absurd (omega arith)
escape_first (a ∷ []) long first second third = absurd (omega arith)
escape_first (a ∷ b ∷ []) long first second third = rw first (rw (not_byte b 10 second) refl)
escape_first (a ∷ b ∷ c ∷ bytes) long first second third = grind (arith, common_steps, nat_tests, units_pair, units_return, third)

pub returns-in-36-clause-first : goal.returns-in-36-clause-first
returns-in-36-clause-first c =
    let bytes = from c.args.text.now c.args.index in
    at_index c.args.text.now c.args.index (2 + c.leading_spaces-in-36.result) _
    (continuation_at bytes c.leading_spaces-in-36.result (grind arith) (grind arith) (grind arith)
    (c.leading_spaces-in-36.ensures.value ∙ ap spaces_at (to_the_end 2 bytes)))

pub returns-in-36-3-clause-first : goal.returns-in-36-3-clause-first
returns-in-36-3-clause-first c =
    at_index c.args.text.now c.args.index 2 _
    (escape_first (from c.args.text.now c.args.index) (grind arith) (grind arith) (λ e. grind arith) (λ l e f. grind arith))

pub returns-in_default-clause-first : goal.returns-in_default-clause-first
returns-in_default-clause-first c =
    let some = from_some c.args.text.now c.args.index c.requires in
    at_index c.args.text.now c.args.index 1 _ (byte_first (from c.args.text.now c.args.index) some (λ l e. grind arith))
