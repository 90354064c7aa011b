use Rattle.std.proofs.Common.{rules, tests, ◌≡◌, ◌∙◌, map, Ok}
use Rattle.std.proofs.lemmas.List.{map-id}
use Rattle.std.proofs.lemmas.Iterator.{YieldsList-from_slice, YieldsList-from_map_by}
use Rattle.std.proofs.lemmas.Iterator.Consumers.{YieldsList-at, map_from_collect}
use Rattle.collate_core.specs.Prelude.{AllocError, lent}
use Rattle.collate_core.proofs.texts.map_of.Goals as goal

provided : (c : goal.After-of_rising) → map lent c.in_ok-provided.provided.items ≡ c.provided.result.now
provided c =
    let pairs = c.provided.result.now in
    map_from_collect {E = AllocError} (Ok c.in_ok-provided.provided) c.in_ok-provided.ensures.ran
    (YieldsList-from_map_by _ lent (λ pair. pair) (YieldsList-at c.map.ensures.source (YieldsList-from_slice pairs c.iter-provided.ensures.rest))
    c.map.ensures.closure (λ x r q k. search (rules, tests)))
    ∙ map-id pairs

pub returns-clause-map : goal.returns-clause-map
returns-clause-map c = search (rules, provided c) fits 200
