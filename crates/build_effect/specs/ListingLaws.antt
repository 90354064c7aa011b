-- Laws: a written edge list reads back, and an error stays when more bytes follow.
use Rattle.std.specs.Prelude.{◌≡◌, ◌++◌, IsTrue, List, All, None}
use Rattle.ninja_text.specs.Bytes.{Bytes}
use Rattle.ninja_text.specs.Paths.{IsPath}
use Rattle.build_effect.specs.EdgeValue.{EdgeValue}
use Rattle.build_effect.specs.Graphs.{made_by, inputs_of, IsGraph}
use Rattle.build_effect.specs.ListingLines.{is_rule_name}
use Rattle.build_effect.specs.ListingWriting.{listing_text, first_too_long}
use Rattle.build_effect.specs.ListingReading.{Lists, HasListingFault}
use Rattle.build_effect.specs.ListingReaders.{IsListingFaultIn}
use Rattle.build_effect.specs.declared.fault.LineFault.{LineFault}

-- An edge that an edge list can contain: its rule has a valid name, and its paths are canonical.
pub record IsListable (e : EdgeValue) : Type 0 where
  pub rule : IsTrue (is_rule_name e.rule)
  pub made : All IsPath (made_by e)
  pub read : All IsPath (inputs_of e)

-- Law: the text of a graph of such edges lists that graph, if no build line is too long.
abbrev pub WrittenListing : Type 0
WrittenListing =
    (g : List EdgeValue) → IsGraph g → All IsListable g → first_too_long g ≡ None
    → Lists (listing_text g) g

-- Law: an error in these bytes is the error of every text that begins with them.
abbrev pub ListingFaultStays : Type 0
ListingFaultStays =
    (bytes more : Bytes) (fault : LineFault)
    → IsListingFaultIn bytes fault → HasListingFault (bytes ++ more) fault
