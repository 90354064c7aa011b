use Rattle.std.proofs.Common.{rules, tests, ◌≡◌, not, IsTrue, ◌↔◌, subst, sym, ◌∙◌}
use Rattle.std.proofs.lemmas.Iterator.{YieldsList-from_slice}
use Rattle.std.proofs.lemmas.Iterator.Search.{any_from_yields_List}
use Rattle.ninja_text.specs.Escapes.{is_unwritable, is_writable, IsWritable}
use Rattle.ninja_text.proofs.EscapedPaths.{some_byte, writable}
use Rattle.ninja_text.proofs.paths.is_writable.Goals as goal

pub returns-then-not-is_empty : goal.returns-then-not-is_empty
returns-then-not-is_empty c =
    let path = c.args.path.now in
    let found = any_from_yields_List is_unwritable _ _ c.any.result c.any.ensures.ran (YieldsList-from_slice path cc) (λ x b q k. search (rules, tests)) in
    let value : not c.any.result ≡ is_writable path = some_byte path c.any.result (sym c.is_empty.ensures ∙ c.if-not-is_empty.true) found in
    record { value = value; meaning = subst (λ b. IsTrue b ↔ IsWritable path) (sym value) (writable path) }
