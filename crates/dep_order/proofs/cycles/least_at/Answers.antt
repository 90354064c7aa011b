use Rattle.std.proofs.Common.{rules, tests, ◌∙◌, sym, subst, None, min}
use Rattle.std.specs.List.{filter}
use Rattle.std.proofs.lemmas.Iterator.{YieldsList-from_slice}
use Rattle.std.proofs.lemmas.Iterator.Adapters.{option_map_id}
use Rattle.std.proofs.lemmas.Iterator.Consumers.{YieldsList-at, YieldsList-from_copied, YieldsList-from_filter, min_from_yields_List}
use Rattle.dep_order.proofs.Greedy.{is_at, IsLeastIfAny, is_least}
use Rattle.dep_order.proofs.cycles.least_at.Goals as goal
use Rattle.dep_order.proofs.cycles.least_at.Goals.{After-min-least}

-- the least of the nodes at the distance
least : (c : After-min-least) → IsLeastIfAny c.args.row.now c.args.steps.now c.args.count c.min-least.result
least c =
    let row = c.args.row.now in
    let steps = c.args.steps.now in
    let is =
    sym (option_map_id c.min-least.result)
    ∙ min_from_yields_List _ c.min-least.result c.min-least.ensures.ran
    (YieldsList-from_filter _ (is_at steps c.args.count)
    (YieldsList-at c.filter.ensures.source
    (YieldsList-from_copied (YieldsList-at c.copied-nodes.ensures.source (YieldsList-from_slice row c.iter.ensures.rest)))) c.filter.ensures.closure
    (λ x b q k. search (rules, tests))) in
    rw is (is_least row steps c.args.count)

pub returns : goal.returns
returns c = subst (IsLeastIfAny c.args.row.now c.args.steps.now c.args.count) c.in-Some.is (least (goal.at.returns c).After-min-least)

pub unreachable-requires : goal.unreachable-requires
unreachable-requires c =
    let none =
    subst (IsLeastIfAny c.args.row.now c.args.steps.now c.args.count) c.in-None.is (least (goal.at.unreachable-requires c).After-min-least) in
    let some = c.requires.some in
    none some.0 some.1 some.2
