use Rattle.std.proofs.Common.{rules, tests, ◌≡◌, sym, ◌∙◌}
use Rattle.std.specs.List.{list_any}
use Rattle.std.proofs.lemmas.Iterator.{YieldsList-from_slice}
use Rattle.std.proofs.lemmas.Iterator.Search.{any_from_yields_List}
use Rattle.ninja_text.specs.inner.PlainTexts.{is_suspect}
use Rattle.ninja_text.proofs.Units.{no_suspect}
use Rattle.ninja_text.proofs.lexing.check_units.Goals as goal

pub returns-then-not-any : goal.returns-then-not-any
returns-then-not-any c =
    let found : c.any.result ≡ list_any is_suspect c.args.text.now =
    any_from_yields_List is_suspect _ _ c.any.result c.any.ensures.ran (YieldsList-from_slice c.args.text.now cc) (λ x b q k. search (rules, tests)) in
    sym (no_suspect c.args.text.now (sym found ∙ c.if-not-any.true))
