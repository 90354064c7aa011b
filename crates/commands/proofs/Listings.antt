-- What reading an edge list or a dyndep file leads to.
use Rattle.std.proofs.Common.{◌≡◌, refl, Some, Result, Ok, Err, inl, inr, IfOk, IfErr, Bool}
use Rattle.commands.specs.Prelude.{is_ok, Bytes, ForFault, Failure, DyndepReaderState, HasReadDyndep, FeedsDyndep, EndsDyndepFile, IsReadFaultIn, IsReadFaultOf, StandsForOnly, ReadFault, IsGraph, ListingReaderState, HasReadListing, FeedsListing, EndsListing, IsListingFault, IsListingFaultIn, line_failure, Lists, ListFault, LineFault, DyndepRead, IsDyndepRead, FileRead, HasFailed, ReadsOn, WasGiven, whole, ListingRead, IsListingRead}
use Rattle.ninja_text.specs.declared.failure.Failure.TheVariants.{Memory, Fault}
use Rattle.dyndep_file.specs.declared.fault.ReadFault.TheVariants.{AtLine, Io}
use Rattle.build_effect.specs.declared.fault.ListFault.TheVariants as list

-- ---- what a whole text is read as

pub whole_dyndep : (text : Bytes) (r : DyndepRead) → IfOk r (StandsForOnly text) → IfErr r (ForFault (IsReadFaultOf text)) → IsDyndepRead (whole text) r
whole_dyndep text (Ok statements) is none = (refl, is.stands)
whole_dyndep text (Err Memory) none is = tt
whole_dyndep text (Err (Fault fault)) none is = inr (refl, is)

pub whole_listing : (text : Bytes) (r : ListingRead) → IfOk r IsGraph → IfOk r (Lists text) → IfErr r (ForFault (IsListingFault text)) →
    IsListingRead (whole text) r
whole_listing text (Ok edges) graph is none = (refl, (is, graph))
whole_listing text (Err Memory) graph none is = tt
whole_listing text (Err (Fault fault)) graph none is = inr (refl, is)

-- ---- what a reader makes of a file, by what it was given

pub dyndep_read : (reader : DyndepReaderState) (r : DyndepRead) → ((failure : Failure ReadFault) → reader.failed ≡ Some failure → r ≡ Err failure) →
    ((bytes : Bytes) → HasReadDyndep bytes reader → EndsDyndepFile bytes r) →
    (file : FileRead) → WasGiven HasReadDyndep (HasFailed IsReadFaultIn) file reader → IsDyndepRead file r
dyndep_read reader r failed all file (inl (read, ended)) = at_end r (all file.bytes read)
  where
    at_end : (r : DyndepRead) → EndsDyndepFile file.bytes r → IsDyndepRead file r
    at_end (Ok statements) h = (ended, h)
    at_end (Err Memory) h = tt
    at_end (Err (Fault (AtLine line fault))) h = inr (ended, inr h)
    at_end (Err (Fault Io)) h = absurd h
dyndep_read reader r failed all file (inr (Memory, is, in_bytes)) = rw (failed Memory is) tt
dyndep_read reader r failed all file (inr (Fault fault, is, in_bytes)) = rw (failed (Fault fault) is) (inl in_bytes)

pub listing_read : (reader : ListingReaderState) (r : ListingRead) → IfOk r IsGraph →
    ((failure : Failure LineFault) → reader.failed ≡ Some failure → r ≡ Err (line_failure failure)) →
    ((bytes : Bytes) → HasReadListing bytes reader → EndsListing bytes r) →
    (file : FileRead) → WasGiven HasReadListing (HasFailed IsListingFaultIn) file reader → IsListingRead file r
listing_read reader r graph failed all file (inl (read, ended)) = at_end r graph (all file.bytes read)
  where
    at_end : (r : ListingRead) → IfOk r IsGraph → EndsListing file.bytes r → IsListingRead file r
    at_end (Ok edges) graph h = (ended, (h, graph))
    at_end (Err Memory) graph h = tt
    at_end (Err (Fault (list.AtLine fault))) graph h = inr (ended, inr h)
    at_end (Err (Fault (list.NoGraph fault))) graph h = inr (ended, h)
listing_read reader r graph failed all file (inr (Memory, is, in_bytes)) = rw (failed Memory is) tt
listing_read reader r graph failed all file (inr (Fault fault, is, in_bytes)) = rw (failed (Fault fault) is) (inl in_bytes)

-- ---- pieces

pub dyndep_piece : (bytes : Bytes) (r : Result Unit (Failure ReadFault)) (on : Bool) (reader : DyndepReaderState) → on ≡ is_ok r →
    FeedsDyndep bytes r reader → ReadsOn HasReadDyndep (HasFailed IsReadFaultIn) bytes on reader
dyndep_piece bytes (Ok done) on reader e h = rw e h
dyndep_piece bytes (Err failure) on reader e h = rw e (failure, h.0, h.1)

-- the failure of a reader of edge lists
failed_by : (bytes : Bytes) (failure : Failure ListFault) (reader : ListingReaderState) → FeedsListing bytes (Err failure) reader →
    HasFailed IsListingFaultIn bytes reader
failed_by bytes Memory reader h = (Memory, h, tt)
failed_by bytes (Fault (list.AtLine fault)) reader h = (Fault fault, h.0, h.1)
failed_by bytes (Fault (list.NoGraph fault)) reader h = absurd h

pub listing_piece : (bytes : Bytes) (r : Result Unit (Failure ListFault)) (on : Bool) (reader : ListingReaderState) → on ≡ is_ok r →
    FeedsListing bytes r reader → ReadsOn HasReadListing (HasFailed IsListingFaultIn) bytes on reader
listing_piece bytes (Ok done) on reader e h = rw e h
listing_piece bytes (Err failure) on reader e h = rw e (failed_by bytes failure reader h)
