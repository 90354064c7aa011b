use Rattle.std.proofs.Common.{◌≢◌, [], sym, subst, ap, ◌∙◌, slice_get}
use Rattle.build_effect.specs.Prelude.{EdgeValue, MadeOnce, AreMade}
use Rattle.build_effect.proofs.Lists.{all_at}
use Rattle.build_effect.proofs.graph.Graph.new.Goals as goal

pub check_dyndeps-requires-clause-made_once : goal.check_dyndeps-requires-clause-made_once
check_dyndeps-requires-clause-made_once c =
    subst MadeOnce (sym c.as_slice-2.ensures.value) (subst MadeOnce c.as_slice.ensures.value c.in_ok-makers.ensures.once)

pub invariant_of-result : goal.invariant_of-result
invariant_of-result c = (
  record {
    outputs = all_at (λ (e : EdgeValue). e.outputs ≢ []) c.args.edges.items c.requires;
    made_once = subst MadeOnce c.as_slice.ensures.value c.in_ok-makers.ensures.once;
    dyndep_is_input = λ i e file at names. c.in_ok-check_dyndeps.ensures.ok i e file (ap (λ xs. slice_get xs i) c.as_slice-2.ensures.value ∙ at) names;
  },
  subst (λ g. AreMade g c.in_ok-makers.makers) c.as_slice.ensures.value c.in_ok-makers.ensures.makers,
)
