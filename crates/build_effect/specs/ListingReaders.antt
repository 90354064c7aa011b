-- What a reader of edge lists returns, given all bytes that it was fed. It does not matter how they
-- were cut into pieces.
use Rattle.std.specs.Prelude.{◌≡◌, ◌⊎◌, List, Some, Result, Ok, Err}
use Rattle.ninja_text.specs.Bytes.{Bytes}
use Rattle.ninja_text.specs.LineReading.{LinesRead}
use Rattle.ninja_text.specs.FormatReading as lines
use Rattle.ninja_text.specs.declared.failure.Failure.{Failure}
use Rattle.ninja_text.specs.declared.failure.Failure.TheVariants.{Memory, Fault}
use Rattle.build_effect.specs.EdgeValue.{EdgeValue}
use Rattle.build_effect.specs.ListingLines.{ListingClass}
use Rattle.build_effect.specs.ListingGrammar.{IsListing}
use Rattle.build_effect.specs.ListingSteps.{ListingValue, open_from}
use Rattle.build_effect.specs.ListingReading.{listing_format, Lists, HasFaultyLine, HasFaultyEnd, HasListingFault}
use Rattle.build_effect.specs.Faults.{IsGraphFault}
use Rattle.build_effect.specs.declared.fault.LineCause.TheVariants.{LineTooLong}
use Rattle.build_effect.specs.declared.fault.LineFault.{LineFault}
use Rattle.build_effect.specs.declared.fault.ListFault.{ListFault}
use Rattle.build_effect.specs.declared.fault.ListFault.TheVariants.{AtLine, NoGraph}
use Rattle.build_effect.specs.declared.listing.Binding.TheVariants.{Closed}

-- Lines of these classes list the edges so far and lead to this state of the bindings.
abbrev pub LeadToEdges : List ListingClass → ListingValue → Type 0
LeadToEdges classes value =
    IsListing classes value.edges × (value.binding ≡ open_from Closed classes)

-- the view of a reader: its cutter of lines, the edges so far, and the failure it returned, if any
abbrev pub ListingReaderState : Type 0
ListingReaderState = LinesRead ListingValue LineFault

-- The reader was fed these bytes in total and has returned no error.
abbrev pub HasReadListing : Bytes → ListingReaderState → Type 0
HasReadListing bytes r = lines.HasRead listing_format LeadToEdges bytes r

-- The error is in these bytes: it is that of the first faulty line, or the bytes after the last
-- line reach the limit of a line. Every text that begins with these bytes has this error.
abbrev pub IsListingFaultIn : Bytes → LineFault → Type 0
IsListingFaultIn bytes fault =
    HasFaultyLine bytes fault ⊎ (HasFaultyEnd bytes fault × (fault.cause ≡ LineTooLong))

-- What `feed` returns and does, given all bytes fed, including this piece, if no earlier call
-- failed: the reader has read the bytes, or the error is in them, or an allocation failed.
abbrev pub FeedsListing : Bytes → Result Unit (Failure ListFault) → ListingReaderState → Type 0
FeedsListing bytes (Ok u) new = HasReadListing bytes new
FeedsListing bytes (Err (Fault (AtLine fault))) new =
    (new.failed ≡ Some (Fault fault)) × IsListingFaultIn bytes fault
FeedsListing bytes (Err (Fault (NoGraph fault))) new = ⊥
FeedsListing bytes (Err Memory) new = new.failed ≡ Some Memory

-- what a reader that has failed returns
abbrev pub line_failure : Failure LineFault → Failure ListFault
line_failure Memory = Memory
line_failure (Fault fault) = Fault (AtLine fault)

-- What `finish` returns, given all bytes fed, if no earlier call failed: the graph of the edges
-- that the bytes list, or the error at their end, or why the edges are not a graph, or that an
-- allocation failed.
abbrev pub EndsListing : Bytes → Result (List EdgeValue) (Failure ListFault) → Type 0
EndsListing bytes (Ok graph) = Lists bytes graph
EndsListing bytes (Err (Fault (AtLine fault))) = HasFaultyEnd bytes fault
EndsListing bytes (Err (Fault (NoGraph fault))) =
    (edges : List EdgeValue) × Lists bytes edges × IsGraphFault edges fault
EndsListing bytes (Err Memory) = Unit {0}

-- Why a text is not the edge list of a graph: it has this error, or the edges that it lists are not
-- a graph.
abbrev pub IsListingFault : Bytes → ListFault → Type 0
IsListingFault bytes (AtLine fault) = HasListingFault bytes fault
IsListingFault bytes (NoGraph fault) =
    (edges : List EdgeValue) × Lists bytes edges × IsGraphFault edges fault
