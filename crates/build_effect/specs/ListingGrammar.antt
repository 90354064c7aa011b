-- The grammar of an edge list, over the classes of its lines:
--
--     listing = ((Comment | Blank)* Build (Comment | Dyndep | Restat)*)* (Comment | Blank)*
--
-- The lines after a build line, up to the next blank line or build line, bind each name at most
-- once.
use Rattle.std.specs.Prelude.{Bool, false, List, [], ◌∷◌, ◌++◌, Option, None, Some}
use Rattle.ninja_text.specs.Bytes.{PathText}
use Rattle.build_effect.specs.EdgeValue.{EdgeValue}
use Rattle.build_effect.specs.ListingLines.{EdgeTexts, ListingClass, Comment, Blank, Build, Dyndep, Restat}

-- The lines begin with comments and at most one binding of each name, which set these values. The
-- lines `more` follow.
pub data HasBindings : List ListingClass → Option PathText → Option Bool → List ListingClass
    → Type 0 where
  no_more_bindings : {more : List ListingClass} → HasBindings more None None more
  comment_between : {classes more : List ListingClass} {dyndep : Option PathText}
      {restat : Option Bool}
      → HasBindings classes dyndep restat more → HasBindings (Comment ∷ classes) dyndep restat more
  dyndep_binding : {classes more : List ListingClass} {path : PathText} {restat : Option Bool}
      → HasBindings classes None restat more
      → HasBindings (Dyndep path ∷ classes) (Some path) restat more
  restat_binding : {classes more : List ListingClass} {dyndep : Option PathText} {flag : Bool}
      → HasBindings classes dyndep None more
      → HasBindings (Restat flag ∷ classes) dyndep (Some flag) more

-- whether `restat` is on: it is off if there is no binding
abbrev pub is_on : Option Bool → Bool
is_on None = false
is_on (Some flag) = flag

-- the edge with these paths and these bindings
abbrev pub bound : EdgeTexts → Option PathText → Option Bool → EdgeValue
bound t dyndep restat = record {
  rule = t.rule;
  outputs = t.outputs;
  implicit_outputs = t.implicit_outputs;
  inputs = t.inputs;
  implicit_inputs = t.implicit_inputs;
  order_only = t.order_only;
  dyndep = dyndep;
  restat = is_on restat;
}

-- The lines are an edge list with these edges, one for each build line, in order.
pub data IsListing : List ListingClass → List EdgeValue → Type 0 where
  listing_end : IsListing [] []
  listing_comment : {classes : List ListingClass} {edges : List EdgeValue}
      → IsListing classes edges → IsListing (Comment ∷ classes) edges
  listing_blank : {classes : List ListingClass} {edges : List EdgeValue}
      → IsListing classes edges → IsListing (Blank ∷ classes) edges
  listing_build : {paths : EdgeTexts} {classes more : List ListingClass} {dyndep : Option PathText}
      {restat : Option Bool} {edges : List EdgeValue}
      → HasBindings classes dyndep restat more → IsListing more edges
      → IsListing (Build paths ∷ classes) (bound paths dyndep restat ∷ edges)

-- Some edge list begins with lines of these classes.
abbrev pub BeginsListing : List ListingClass → Type 0
BeginsListing classes =
    (more : List ListingClass) × (edges : List EdgeValue) × IsListing (classes ++ more) edges
