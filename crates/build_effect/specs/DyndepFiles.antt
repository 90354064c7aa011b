-- Dyndep files that are checked together on one graph.
use Rattle.std.specs.Prelude.{List, length}
use Rattle.ninja_text.specs.Bytes.{PathText}
use Rattle.dep_order.specs.Needs.{IsOrderable}
use Rattle.dyndep_file.specs.StatementValue.{StatementValue}
use Rattle.build_effect.specs.EdgeValue.{EdgeValue}
use Rattle.build_effect.specs.Effect.{OnlyEffect}
use Rattle.build_effect.specs.Graphs.{EdgeNeeds}

-- a dyndep file: its name and its statements
pub record DyndepFileValue : Type 0 where
  pub name : PathText
  pub statements : List StatementValue

-- the file has exactly one effect on the graph, and the edges after it can be put in order
abbrev pub HasOrderAfter : List EdgeValue → DyndepFileValue → Type 0
HasOrderAfter g file =
    (new : List EdgeValue) × OnlyEffect g file.name file.statements new
    × IsOrderable (length new) (EdgeNeeds new)
