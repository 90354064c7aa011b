use Rattle.std.proofs.Common.{rules, ◌||◌, not, ap, eqb}
use borrow.Author.Tests.{tests}
use Rattle.std.proofs.lemmas.Iterator.Search.{any_from_yields_List}
use Rattle.std.proofs.lemmas.Iterator.Splits.{YieldsList-from_slice_split}
use Rattle.ninja_text.specs.Reduction.{is_current, is_parent}
use Rattle.ninja_text.proofs.reduction.has_only_names.Goals as goal

pub returns : goal.returns
returns c = ap not (any_from_yields_List (λ part. is_current part || is_parent part) _ _ c.any.result c.any.ensures.ran
    (YieldsList-from_slice_split _ (λ b. eqb b 47) c.args.text.now c.split.ensures.rest c.split.ensures.done c.split.ensures.closure
    (λ x r q k. search (rules, tests))) (λ x b q k. search (rules, tests)))
