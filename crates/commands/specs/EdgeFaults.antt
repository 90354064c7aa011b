-- How faults of edge lists and of effects on edges are reported: edges by their first outputs.
use Rattle.std.specs.Prelude.{ℕ, List, [], ◌∷◌, ◌++◌, slice_get, slice_index_or, Option, Some, None, codes}
use Rattle.std.specs.List.{flat_map}
use Rattle.std.specs.Option.{option_map_or}
use Rattle.ninja_text.specs.Bytes.{Text, PathText}
use Rattle.ninja_text.specs.FaultTexts.{path_fault_text}
use Rattle.ninja_text.specs.declared.fault.PathFault.{PathFault}
use Rattle.dep_order.specs.Numbers.{Numbers}
use Rattle.build_effect.specs.EdgeValue.{EdgeValue}
use Rattle.build_effect.specs.FaultTexts.{graph_fault_text, graph_fault_path, effect_fault_text, effect_fault_path}
use Rattle.build_effect.specs.ListingFaultTexts.{listing_line_fault_text, listing_write_fault_text}
use Rattle.build_effect.specs.declared.fault.EffectFault.{EffectFault}
use Rattle.build_effect.specs.declared.fault.ListFault.{ListFault}
use Rattle.build_effect.specs.declared.fault.ListFault.TheVariants.{AtLine, NoGraph}
use Rattle.build_effect.specs.declared.fault.ListingWriteFault.{ListingWriteFault}
use Rattle.build_effect.specs.declared.fault.ListingWriteFault.TheVariants.{ListingTooLong, Io}
use Rattle.commands.specs.Locations.{edges_location, effect_location, in_document, listing_location, path_location}
use Rattle.commands.specs.Outcomes.{ErrorValue, located, unlocated}
use Rattle.commands.specs.declared.location.Document.TheVariants as document

-- the first output of the edge of that index
abbrev pub first_output : List EdgeValue → ℕ → PathText
first_output edges index =
    option_map_or (λ e. slice_index_or e.outputs 0 []) (slice_get edges index) []

-- why an edge list gives no graph: the fault of a line, or the file that the edges' fault is about
abbrev pub edges_fault_text : ListFault → Text
edges_fault_text (AtLine fault) = codes "edges: " ++ listing_line_fault_text fault
edges_fault_text (NoGraph fault) = graph_fault_text fault ++ codes " " ++ graph_fault_path fault

abbrev pub edges_error : ListFault → ErrorValue
edges_error fault = located (edges_fault_text fault) (edges_location fault)

-- why a name is no path
abbrev pub name_error : PathFault → ErrorValue
name_error fault =
    located (codes "name: " ++ path_fault_text fault)
    (in_document document.Name (path_location fault))

-- why the edge list can't be written: the edge whose line is too long
abbrev pub listing_write_text : List EdgeValue → ListingWriteFault → Text
listing_write_text edges (ListingTooLong index) =
    codes "E9 ListingTooLong " ++ first_output edges index
listing_write_text edges (Io written) = listing_write_fault_text (Io written)

abbrev pub listing_write_error : List EdgeValue → ListingWriteFault → ErrorValue
listing_write_error edges fault =
    located (listing_write_text edges fault) (listing_location fault)

-- the file that an effect's fault is about, after a space, if it is about one
abbrev pub subject_text : Option PathText → Text
subject_text None = []
subject_text (Some path) = codes " " ++ path

-- why statements have no effect
abbrev pub effect_text : EffectFault → Text
effect_text fault = effect_fault_text fault ++ subject_text (effect_fault_path fault)

abbrev pub effect_error : EffectFault → ErrorValue
effect_error fault = located (effect_text fault) (effect_location fault)

-- the first outputs of edges, with arrows between them
abbrev pub chain_text : List EdgeValue → Numbers → Text
chain_text edges [] = []
chain_text edges (first ∷ others) =
    first_output edges first ++ flat_map (λ next. codes " -> " ++ first_output edges next) others

-- edges that need each other
abbrev pub cycle_text : List EdgeValue → Numbers → Text
cycle_text edges cycle = codes "cycle " ++ chain_text edges cycle

abbrev pub cycle_error : List EdgeValue → Numbers → ErrorValue
cycle_error edges cycle = unlocated (cycle_text edges cycle)
