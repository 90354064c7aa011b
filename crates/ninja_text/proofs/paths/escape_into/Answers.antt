use Rattle.std.proofs.Common.{rules, tests, ◌≡◌, ◌++◌, OnOk, subst, sym, ◌∙◌, arith}
use Rattle.std.proofs.lemmas.Grind.{common_steps}
use Rattle.std.specs.List.{list_any}
use Rattle.std.proofs.lemmas.Iterator.{YieldsList-from_slice}
use Rattle.std.proofs.lemmas.Iterator.Search.{any_from_yields_List}
use Rattle.ninja_text.specs.Escapes.{is_escaped}
use Rattle.ninja_text.proofs.EscapedPaths.{escaped_none}
use Rattle.ninja_text.proofs.Spelling.{escaped-means}
use Rattle.ninja_text.proofs.paths.escape_into.Goals as goal

pub returns-then-not-any-clause-ok : goal.returns-then-not-any-clause-ok
returns-then-not-any-clause-ok c =
    let found : c.any.result ≡ list_any is_escaped c.args.path.now =
    any_from_yields_List is_escaped _ _ c.any.result c.any.ensures.ran (YieldsList-from_slice c.args.path.now cc) (λ x b q k. search (rules, tests)) in
    subst (λ spelled. OnOk c.extend_from_slice.result (c.extend_from_slice.new.self.items ≡ c.args.out.now.items ++ spelled))
    (sym (escaped_none c.args.path.now (sym found ∙ c.if-not-any.true))) (search rules)

pub returns-then-not-any-clause-meaning : goal.returns-then-not-any-clause-meaning
returns-then-not-any-clause-meaning c = escaped-means c.args.path.now c.requires

pub returns-in-Err-clause-meaning : goal.returns-in-Err-clause-meaning
returns-in-Err-clause-meaning c = escaped-means c.args.path.now c.requires

pub returns-clause-meaning : goal.returns-clause-meaning
returns-clause-meaning c = escaped-means c.args.path.now c.requires

pub loop-byte-preserved : goal.loop-byte-preserved
loop-byte-preserved c = grind (arith, common_steps)

pub returns-in-Err-clause-err : goal.returns-in-Err-clause-err
returns-in-Err-clause-err c = grind (arith, common_steps)
