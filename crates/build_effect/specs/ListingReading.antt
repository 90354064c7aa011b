-- Which edges a text lists, and which error it has otherwise.
use Rattle.std.specs.Prelude.{◌≡◌, ◌⊎◌, ◌<◌, ◌≤◌, Bool, List, [], ◌∷◌, ◌++◌, length}
use Rattle.ninja_text.specs.Bytes.{Bytes, Text}
use Rattle.ninja_text.specs.Lines.{line_limit}
use Rattle.ninja_text.specs.LineFormats.{LineFormat, LineFaults, IsOfClass, IsFaultyAfter}
use Rattle.ninja_text.specs.LineFormats as lines
use Rattle.build_effect.specs.EdgeValue.{EdgeValue}
use Rattle.build_effect.specs.ListingLines.{ListingClass, IsListingLine}
use Rattle.build_effect.specs.ListingGrammar.{IsListing, BeginsListing}
use Rattle.build_effect.specs.ListingFaults.{IsLineCause}
use Rattle.build_effect.specs.declared.fault.LineCause.{LineCause}
use Rattle.build_effect.specs.declared.fault.LineCause.TheVariants.{LineTooLong, Truncated, Form}
use Rattle.build_effect.specs.declared.fault.LineFault.{LineFault}

-- Edge lists as a line format.
abbrev pub listing_format : LineFormat ListingClass (List EdgeValue)
listing_format = record { text_is_of = IsListingLine; grammar = IsListing }

-- The text lists these edges: it consists of lines, with no bytes left over, and the lines are an
-- edge list with these edges.
abbrev pub Lists : Bytes → List EdgeValue → Type 0
Lists bytes edges = lines.StandsForValue listing_format bytes edges

-- The error at the end of a text without a faulty line, given the bytes after its last line: they
-- reach the limit of a line, or they are fewer but not empty.
abbrev pub IsEndCause : Bytes → LineCause → Type 0
IsEndCause rest LineTooLong = line_limit ≤ length rest
IsEndCause rest Truncated = (0 < length rest) × (length rest < line_limit)
IsEndCause rest other = ⊥

-- the errors of an edge list
abbrev pub listing_faults : LineFaults ListingClass LineCause
listing_faults =
    record { of_line = IsLineCause; of_end = λ classes rest cause. IsEndCause rest cause }

-- The first faulty line of the text has this number and this cause.
abbrev pub HasFaultyLine : Bytes → LineFault → Type 0
HasFaultyLine bytes fault =
    lines.FaultyLine listing_format listing_faults bytes fault.line fault.cause

-- No line of the text is faulty, but its end is.
abbrev pub HasFaultyEnd : Bytes → LineFault → Type 0
HasFaultyEnd bytes fault =
    lines.FaultyEnd listing_format listing_faults bytes fault.line fault.cause

-- The text has this error, in a line or at its end.
abbrev pub HasListingFault : Bytes → LineFault → Type 0
HasListingFault bytes fault = HasFaultyLine bytes fault ⊎ HasFaultyEnd bytes fault

-- Law: a text lists at most one list of edges.
abbrev pub OneListing : Type 0
OneListing =
    (bytes : Bytes) (edges others : List EdgeValue)
    → Lists bytes edges → Lists bytes others → others ≡ edges

-- Law: a text that lists edges has no error.
abbrev pub ListedIsFaultless : Type 0
ListedIsFaultless =
    (bytes : Bytes) (edges : List EdgeValue) (fault : LineFault)
    → Lists bytes edges → HasListingFault bytes fault → ⊥

-- Law: a text lists edges, or has an error.
abbrev pub ListingOrFault : Type 0
ListingOrFault =
    (bytes : Bytes)
    → ((edges : List EdgeValue) × Lists bytes edges)
    ⊎ ((fault : LineFault) × HasListingFault bytes fault)

-- Law: a text has at most one error, at one line and with one cause.
abbrev pub OneListingFault : Type 0
OneListingFault =
    (bytes : Bytes) (fault other : LineFault)
    → HasListingFault bytes fault → HasListingFault bytes other → other ≡ fault

-- Law: a line has at most one class.
abbrev pub OneClass : Type 0
OneClass =
    (text : Text) (comment : Bool) (c d : ListingClass)
    → IsListingLine text comment c → IsListingLine text comment d → d ≡ c

-- Law: after lines with which some edge list begins, a line has a class with which some edge list
-- continues, or it has a cause.
abbrev pub LineOrCause : Type 0
LineOrCause =
    (classes : List ListingClass) (line : Text) → BeginsListing classes
    → ((c : ListingClass) × IsOfClass listing_format line c × BeginsListing (classes ++ c ∷ []))
    ⊎ ((cause : LineCause) × IsLineCause classes line cause)

-- Law: after such lines, no edge list continues with a line that has a cause.
abbrev pub CauseIsFaulty : Type 0
CauseIsFaulty =
    (classes : List ListingClass) (line : Text) (cause : LineCause) → BeginsListing classes
    → IsLineCause classes line cause → IsFaultyAfter listing_format classes line

-- Law: a line has at most one cause.
abbrev pub OneCause : Type 0
OneCause =
    (classes : List ListingClass) (line : Text) (cause other : LineCause)
    → IsLineCause classes line cause → IsLineCause classes line other → other ≡ cause

-- Law: if a line with a class has a cause, it is `Form`: the line may not come at this point.
abbrev pub ClassHasForm : Type 0
ClassHasForm =
    (classes : List ListingClass) (line : Text) (cause : LineCause) (c : ListingClass)
    → IsLineCause classes line cause → IsOfClass listing_format line c → cause ≡ Form
