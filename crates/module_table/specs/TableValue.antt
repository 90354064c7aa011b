-- What a contract sees of a module table.
use Rattle.std.specs.Prelude.{List}
use Rattle.document_values.specs.Rule.{RuleValue}
use Rattle.document_values.specs.Info.{InfoValue}

-- the objects of a target, and the info files of the targets that it links, both by index
pub record TableValue : Type 0 where
  pub objects : List RuleValue
  pub infos : List InfoValue

-- the table of these objects and info files
abbrev pub table_with : List RuleValue → List InfoValue → TableValue
table_with objects infos = record { objects = objects; infos = infos }
