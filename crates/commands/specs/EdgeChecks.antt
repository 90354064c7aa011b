-- The check of the edges that a target document names, once the target was collated.
use Rattle.std.specs.Prelude.{ℕ, List, length, Option, Some, None, Vec}
use Rattle.std.specs.Global.{Global}
use Rattle.ninja_text.specs.Bytes.{Text, PathText}
use Rattle.dep_order.specs.Needs.{IsOrderable}
use Rattle.dep_order.specs.Sortings.{IsSortingOf}
use Rattle.dep_order.specs.declared.Sorting.TheVariants.{Cycle}
use Rattle.build_effect.specs.EdgeValue.{EdgeValue}
use Rattle.build_effect.specs.Graphs.{EdgeNeeds}
use Rattle.collate_core.specs.Rehearsal.{HasEffect, LacksEffect}
use Rattle.commands.specs.EdgeFaults.{effect_error, cycle_error}
use Rattle.commands.specs.Listings.{ListingRead, ListingOf}
use Rattle.commands.specs.Outcomes.{Part, Returns, Done, ◌>>=◌}

-- the edges after the effect of a dyndep text, which is the text of the file of this name
abbrev pub TextEffectOf : Text → PathText → List EdgeValue → Part (List EdgeValue)
TextEffectOf dyndep name old =
    Returns (HasEffect dyndep name old) (LacksEffect dyndep name old) effect_error

-- these edges can be put in order, or this is their least cycle, named by the outputs of the old
-- edges
abbrev pub OrderableOf : List EdgeValue → List EdgeValue → Part (Unit {0})
OrderableOf old new =
    Returns (λ (done : Unit {0}). IsOrderable (length new) (EdgeNeeds new))
    (λ (cycle : Vec ℕ Global). IsSortingOf (length new) (EdgeNeeds new) (Cycle cycle))
    (λ cycle. cycle_error old cycle.items)

-- these edges can be ordered after the effect of a dyndep text, which is the text of the file of
-- this name
abbrev pub GraphPasses : List EdgeValue → PathText → Text → Part (Unit {0})
GraphPasses old name dyndep = do
  new ← TextEffectOf dyndep name old
  OrderableOf old new

-- the edges of an edge list, if there is one, can be put in order after that effect
abbrev pub EdgesPass : Option ListingRead → PathText → Text → Part (Unit {0})
EdgesPass None name dyndep = Done tt
EdgesPass (Some listing) name dyndep = do
  old ← ListingOf listing
  GraphPasses old name dyndep
