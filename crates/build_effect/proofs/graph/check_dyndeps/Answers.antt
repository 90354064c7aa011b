use Rattle.std.proofs.Common.{rules, tests, ◌<◌, ℕ, List, Option, length, refl, subst, arith}
use Rattle.std.proofs.lemmas.Iterator.{IsFirst-from_position, YieldsList-from_slice}
use Rattle.std.proofs.lemmas.Option.{slice_get_read, slice_get_within, get_or_from_slice_get}
use Rattle.build_effect.specs.Prelude.{MatchOption, HoldsAt, AllWithin, EdgeValue, NamesUnread, NamesInput}
use Rattle.build_effect.proofs.graph.check_dyndeps.Goals as goal
use Rattle.build_effect.proofs.graph.check_dyndeps.Goals.{After-position}

-- what a search for an edge that does not read its dyndep file finds
abbrev Found : List EdgeValue → Option ℕ → Type 0
Found g r = MatchOption r (AllWithin NamesInput g 0 (length g)) (λ i. (i < length g) × HoldsAt NamesUnread g i × AllWithin NamesInput g 0 i)

found : (c : After-position) → Found c.args.edges.now c.position.result
found c =
    IsFirst-from_position _ _ c.position.result NamesUnread NamesInput c.position.ensures.ran (YieldsList-from_slice c.args.edges.now c.iter.ensures.rest)
    (λ x q k. search (rules, tests)) (λ x q k. search (rules, tests))

pub returns-in_default-clause-ok : goal.returns-in_default-clause-ok
returns-in_default-clause-ok c = λ i e file at names.
    let g = c.args.edges.now in
    let all = subst (Found g) c.in_default.is (found (goal.at.returns-in_default-clause-ok c).After-position) in
    subst NamesInput (get_or_from_slice_get g i e e at) (all i e (omega arith) (slice_get_within g i e at)) file names

pub returns-clause-fault : goal.returns-clause-fault
returns-clause-fault c =
    let g = c.args.edges.now in
    let i = c.in-Some.edge in
    let first = subst (Found g) c.in-Some.is (found (goal.at.returns-clause-fault c).After-position) in
    let e = c.index-edges-edge.result in
    let at = slice_get_read g _ i e refl first.0 c.index-edges-edge.is in (
      e,
      c.requires.made_once,
      record {
        here = at;
        holds = subst NamesUnread (get_or_from_slice_get g i e e at) (first.1 e);
        before = λ k d lt at_k unread. unread.2 (subst NamesInput (get_or_from_slice_get g k d d at_k) (first.2 k d (omega arith) lt) unread.0 unread.1);
      },
      c.in_ok-output.ensures,
    )
