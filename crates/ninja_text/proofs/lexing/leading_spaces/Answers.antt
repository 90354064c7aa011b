use Rattle.std.proofs.Common.{rules, ◌∙◌, eqb}
use borrow.Author.Tests.{tests}
use Rattle.std.proofs.lemmas.Iterator.{YieldsList-from_slice}
use Rattle.std.proofs.lemmas.Iterator.Search.{YieldsList-from_take_while}
use Rattle.std.proofs.lemmas.Iterator.Consumers.{YieldsList-at, count_from_yields_List}
use Rattle.std.proofs.lemmas.List.Folds.{length-prefix_len}
use Rattle.ninja_text.proofs.lexing.leading_spaces.Goals as goal

pub returns-clause-value : goal.returns-clause-value
returns-clause-value c = count_from_yields_List _ _ c.count.ensures.ran
    (YieldsList-from_take_while _ (λ b. eqb b 32)
    (YieldsList-at c.take_while.ensures.source (YieldsList-from_slice c.args.bytes.now c.iter.ensures.rest))
    c.take_while.ensures.closure c.take_while.ensures.done (λ x b q k. search (rules, tests)))
    ∙ length-prefix_len (λ b. eqb b 32) c.args.bytes.now
