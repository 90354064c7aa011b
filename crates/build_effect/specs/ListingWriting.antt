-- The text of an edge list (Ninja 1.11 manual, "Build statements"), and what a call that writes it
-- returns and does.
use Rattle.std.specs.Prelude.{◌≡◌, ℕ, ◌+◌, Bool, if◌then◌else◌, nat_lt, List, [], ◌∷◌, ◌++◌, length, codes, Option, Some, None, Result, Ok, Err, ⊤}
use Rattle.std.specs.List.{flat_map}
use Rattle.ninja_text.specs.Bytes.{Bytes, Text, PathText, line_feed}
use Rattle.ninja_text.specs.Escapes.{escaped}
use Rattle.ninja_text.specs.Lines.{line_limit}
use Rattle.ninja_text.specs.Counting.{IsCutShort, Call, IsTakenInTurn, IsStoppedInTurn}
use Rattle.ninja_text.specs.declared.counting.Counted.{Counted}
use Rattle.ninja_text.specs.declared.failure.Failure.{Failure}
use Rattle.ninja_text.specs.declared.failure.Failure.TheVariants.{Memory, Fault}
use Rattle.dyndep_file.specs.Writing.{spaced}
use Rattle.build_effect.specs.EdgeValue.{EdgeValue}
use Rattle.build_effect.specs.declared.fault.ListingWriteFault.{ListingWriteFault}
use Rattle.build_effect.specs.declared.fault.ListingWriteFault.TheVariants.{ListingTooLong, Io}

-- the mark and each path after a space; nothing if there are no paths
abbrev pub marked_text : Text → List PathText → Text
marked_text mark [] = []
marked_text mark (path ∷ paths) = mark ++ flat_map spaced (path ∷ paths)

-- the build line before the colon
abbrev pub left_text : EdgeValue → Text
left_text e =
    codes "build" ++ flat_map spaced e.outputs ++ marked_text (codes " |") e.implicit_outputs

-- the build line after the colon
abbrev pub right_text : EdgeValue → Text
right_text e =
    e.rule ++ flat_map spaced e.inputs ++ marked_text (codes " |") e.implicit_inputs
    ++ marked_text (codes " ||") e.order_only

-- the build line of an edge, including its end
abbrev pub edge_line : EdgeValue → Text
edge_line e = left_text e ++ codes ": " ++ right_text e ++ line_feed ∷ []

-- the line of the binding `dyndep`, if the edge names a file
abbrev pub dyndep_line : Option PathText → Text
dyndep_line None = []
dyndep_line (Some path) = codes "  dyndep = " ++ escaped path ++ line_feed ∷ []

-- the line of the binding `restat`, if it is on
abbrev pub restat_line : Bool → Text
restat_line restat = if restat then codes "  restat = 1" ++ line_feed ∷ [] else []

-- the lines of an edge
abbrev pub edge_text : EdgeValue → Text
edge_text e = edge_line e ++ dyndep_line e.dyndep ++ restat_line e.restat

-- the text of a graph: the lines of each edge
abbrev pub listing_text : List EdgeValue → Text
listing_text edges = flat_map edge_text edges

-- whether an edge's build line is longer than the limit
abbrev pub is_too_long : EdgeValue → Bool
is_too_long e = nat_lt line_limit (length (edge_line e))

-- the index of the first edge whose build line is too long, if the first edge has this index
abbrev pub too_long_from : ℕ → List EdgeValue → Option ℕ
too_long_from index [] = None
too_long_from index (e ∷ es) = if is_too_long e then Some index else too_long_from (index + 1) es

-- the index of the first edge whose build line is too long
abbrev pub first_too_long : List EdgeValue → Option ℕ
first_too_long edges = too_long_from 0 edges

-- the text of the edges, unless the build line of this edge is too long
abbrev pub listing_text_unless : Option ℕ → List EdgeValue → Result Text ListingWriteFault
listing_text_unless None edges = Ok (listing_text edges)
listing_text_unless (Some edge) edges = Err (ListingTooLong edge)

-- the text of the edges, or the error of the first edge whose build line is too long
abbrev pub listing_text_or_fault : List EdgeValue → Result Text ListingWriteFault
listing_text_or_fault edges = listing_text_unless (first_too_long edges) edges

-- The writer after a call that failed. After `Io`, the first `written` bytes were written and one
-- call of the writer failed. After any other failure the writer is unchanged.
abbrev pub LeavesListingWriter : {W : Type 0} → (W → Option Bytes) → Counted W → Counted W → Text
    → Failure ListingWriteFault → Type 0
LeavesListingWriter contents old new text Memory = new ≡ old
LeavesListingWriter contents old new text (Fault (ListingTooLong edge)) = new ≡ old
LeavesListingWriter contents old new text (Fault (Io written)) =
    IsCutShort contents old new text written

-- The calls of the writer that were made. On success they took the whole text. With `Io`, calls
-- took the first `written` bytes, and one more failed. With any other failure no call was made.
abbrev pub WritesListingInTurn : {W T : Type 0} → Call W → W → W → Text
    → Result T (Failure ListingWriteFault) → Type 0
WritesListingInTurn writes old new text (Ok done) = IsTakenInTurn writes old new text (length text)
WritesListingInTurn writes old new text (Err Memory) = new ≡ old
WritesListingInTurn writes old new text (Err (Fault (ListingTooLong edge))) = new ≡ old
WritesListingInTurn writes old new text (Err (Fault (Io written))) =
    IsStoppedInTurn writes old new text written

-- Unless an allocation fails, the first edge whose build line is too long is reported, if there is
-- one. Success and `Io` mean that there is none.
abbrev pub AnswersTooLong : {T : Type 0} → Option ℕ → Result T (Failure ListingWriteFault) → Type 0
AnswersTooLong edge (Ok done) = edge ≡ None
AnswersTooLong edge (Err Memory) = ⊤
AnswersTooLong edge (Err (Fault (ListingTooLong index))) = edge ≡ Some index
AnswersTooLong edge (Err (Fault (Io written))) = edge ≡ None
