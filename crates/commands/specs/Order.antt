-- What the command `order` prints.
use Rattle.std.specs.Prelude.{◌≡◌, ℕ, List, [], ◌∷◌, ◌++◌, length, map, Vec}
use Rattle.std.specs.Global.{Global}
use Rattle.std.specs.List.{flat_map}
use Rattle.ninja_text.specs.Bytes.{Text, line_feed}
use Rattle.dep_order.specs.Numbers.{Numbers}
use Rattle.dep_order.specs.Sortings.{IsSortingOf}
use Rattle.dep_order.specs.declared.Sorting.TheVariants.{Order, Cycle}
use Rattle.build_effect.specs.EdgeValue.{EdgeValue}
use Rattle.build_effect.specs.Graphs.{EdgeNeeds}
use Rattle.commands.specs.Answers.{visible}
use Rattle.commands.specs.EdgeFaults.{first_output, cycle_error}
use Rattle.commands.specs.Folder.{whole}
use Rattle.commands.specs.Listings.{ListingRead, IsListingRead, ListingOf}
use Rattle.commands.specs.Outcomes.{Part, OutputValue, Comes, Returns, printed, ◌>>=◌}

-- the first output of each of these edges, one per line
abbrev pub order_text : List EdgeValue → Numbers → Text
order_text edges order =
    flat_map (λ index. map visible (first_output edges index) ++ line_feed ∷ []) order

-- the order of these edges by smallest indexes is printed
abbrev pub PrintsOrder : List EdgeValue → OutputValue → Type 0
PrintsOrder edges output =
    (order : Vec ℕ Global) × IsSortingOf (length edges) (EdgeNeeds edges) (Order order)
    × (output ≡ printed (order_text edges order.items))

-- the order of the edges of a graph, or their least cycle if they have none
abbrev pub OrderOf : List EdgeValue → Part OutputValue
OrderOf edges =
    Returns (PrintsOrder edges)
    (λ (cycle : Vec ℕ Global). IsSortingOf (length edges) (EdgeNeeds edges) (Cycle cycle))
    (λ cycle. cycle_error edges cycle.items)

-- What a run prints for an edge list that was read.
abbrev pub OrderOfRead : ListingRead → Part OutputValue
OrderOfRead listing = do
  graph ← ListingOf listing
  OrderOf graph

-- What a run prints for these bytes of an edge list.
abbrev pub OrderRun : Text → Part OutputValue
OrderRun edges = do
  listing ← Comes (IsListingRead (whole edges))
  OrderOfRead listing
