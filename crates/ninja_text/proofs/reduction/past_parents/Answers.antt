use Rattle.std.proofs.Common.{[], ◌∷◌, Some}
use Rattle.std.proofs.lemmas.Slice.Eq.{strip_prefix_is}
use Rattle.std.proofs.lemmas.Bool.Decides.{Decides-eqb}
use Rattle.ninja_text.proofs.PlainPaths.{parent_list}
use Rattle.ninja_text.proofs.reduction.past_parents.Goals as goal

pub loop-more-preserved : goal.loop-more-preserved
loop-more-preserved c of =
    let rest = c.loop-more.rest.now in
    let same = strip_prefix_is Decides-eqb rest (46 ∷ 46 ∷ 47 ∷ []) (Some c.in-Some.more) c.in-Some.ensures.cases in
    c.loop-more.invariant (parent_list c.in-Some.more.now rest same of)
