-- The edges of the lines so far, and which bindings the last of them may still get.
use Rattle.std.specs.Prelude.{true, false, List, [], ◌∷◌}
use Rattle.build_effect.specs.EdgeValue.{EdgeValue}
use Rattle.build_effect.specs.ListingLines.{ListingClass, Comment, Blank, Build, Dyndep, Restat}
use Rattle.build_effect.specs.declared.listing.Binding.{Binding}
use Rattle.build_effect.specs.declared.listing.Binding.TheVariants.{Closed, Open}

-- the edges so far, whether the last edge is open for bindings, and which bindings it has
pub record ListingValue : Type 0 where
  pub edges : List EdgeValue
  pub binding : Binding

-- the state of the bindings after a line of this class, given the state before it
abbrev pub left_open : Binding → ListingClass → Binding
left_open binding Comment = binding
left_open binding Blank = Closed
left_open binding (Build paths) = Open false false
left_open Closed (Dyndep path) = Closed
left_open Closed (Restat flag) = Closed
left_open (Open dyndep restat) (Dyndep path) = Open true restat
left_open (Open dyndep restat) (Restat flag) = Open dyndep true

-- the state of the bindings after lines of these classes, one after another
abbrev pub open_from : Binding → List ListingClass → Binding
open_from binding [] = binding
open_from binding (c ∷ classes) = open_from (left_open binding c) classes
