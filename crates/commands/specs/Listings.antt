-- What a part of a run gives that reads an edge list.
use Rattle.std.specs.Prelude.{List, Result}
use Rattle.ninja_text.specs.Bytes.{Bytes, Text, PathText}
use Rattle.ninja_text.specs.declared.failure.Failure.{Failure}
use Rattle.build_effect.specs.EdgeValue.{EdgeValue}
use Rattle.build_effect.specs.Graphs.{IsGraph}
use Rattle.build_effect.specs.ListingReaders.{IsListingFaultIn, IsListingFault}
use Rattle.build_effect.specs.ListingReading.{Lists}
use Rattle.build_effect.specs.declared.fault.ListFault.{ListFault}
use Rattle.build_effect.specs.declared.fault.ListFault.TheVariants.{AtLine, NoGraph}
use Rattle.commands.specs.EdgeFaults.{edges_error}
use Rattle.commands.specs.Folder.{FileRead}
use Rattle.commands.specs.Outcomes.{Part, IsResultOf, ReadsAs, ValueOf}

-- the result of reading an edge list
abbrev pub ListingRead : Type 0
ListingRead = Result (List EdgeValue) (Failure ListFault)

-- the fault is in the bytes, so every text that begins with them has it
abbrev pub IsFaultIn : Bytes → ListFault → Type 0
IsFaultIn bytes (AtLine fault) = IsListingFaultIn bytes fault
IsFaultIn bytes (NoGraph fault) = ⊥

-- a text lists these edges, and they are those of a graph
abbrev pub ListsGraph : Text → List EdgeValue → Type 0
ListsGraph text edges = Lists text edges × IsGraph edges

-- the result follows from what was read of the file
abbrev pub IsListingRead : FileRead → ListingRead → Type 0
IsListingRead = IsResultOf ListsGraph IsFaultIn IsListingFault

-- a part that reads the edge list of this name
abbrev pub ReadsListing : PathText → Part ListingRead
ReadsListing = ReadsAs IsListingRead

-- the edges of the graph of an edge list that was read
abbrev pub ListingOf : ListingRead → Part (List EdgeValue)
ListingOf = ValueOf edges_error
