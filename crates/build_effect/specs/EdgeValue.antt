-- The view of a build edge. The view of a graph is the list of its edges.
use Rattle.std.specs.Prelude.{Bool, List, Option}
use Rattle.ninja_text.specs.Bytes.{PathText, Name}

-- `dyndep` is the dyndep file that the edge names, if it names one.
pub record EdgeValue : Type 0 where
  pub rule : Name
  pub outputs : List PathText
  pub implicit_outputs : List PathText
  pub inputs : List PathText
  pub implicit_inputs : List PathText
  pub order_only : List PathText
  pub dyndep : Option PathText
  pub restat : Bool
