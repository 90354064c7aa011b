use Rattle.std.proofs.Common.{rules, ◌∙◌, eqb}
use borrow.Author.Tests.{tests}
use Rattle.std.proofs.lemmas.Iterator.Splits.{YieldsList-from_slice_split}
use Rattle.std.proofs.lemmas.Iterator.Search.{YieldsList-from_take_while}
use Rattle.std.proofs.lemmas.Iterator.Consumers.{YieldsList-at, count_from_yields_List}
use Rattle.std.proofs.lemmas.List.Folds.{length-prefix_len}
use Rattle.ninja_text.specs.Reduction.{components, is_parent}
use Rattle.ninja_text.proofs.reduction.parents.Goals as goal

pub returns : goal.returns
returns c = count_from_yields_List _ _ c.count.ensures.ran
    (YieldsList-from_take_while _ is_parent
    (YieldsList-at c.take_while.ensures.source (YieldsList-from_slice_split _ (λ b. eqb b 47) c.args.list.now c.split.ensures.rest c.split.ensures.done
    c.split.ensures.closure (λ x r q k. search (rules, tests))))
    c.take_while.ensures.closure c.take_while.ensures.done (λ x b q k. search (rules, tests)))
    ∙ length-prefix_len is_parent (components c.args.list.now)
