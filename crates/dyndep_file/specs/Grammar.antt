-- The grammar of a dyndep file (Ninja 1.11 manual, "Dyndep file reference"), over the classes of
-- its lines:
--
--     file = (Comment | Blank)* Version body
--     body = ((Comment | Blank)* Build (Comment* Binding)?)* (Comment | Blank)*
use Rattle.std.specs.Prelude.{Bool, false, List, [], ◌∷◌, ◌++◌}
use Rattle.ninja_text.specs.Bytes.{PathText}
use Rattle.dyndep_file.specs.StatementValue.{StatementValue, statement_with}
use Rattle.dyndep_file.specs.Classes.{DyndepClass, Comment, Blank, Version, Build, Binding}

-- The lines begin with any comments and a binding of `restat` to this flag. The lines `more`
-- follow.
pub data HasBinding : List DyndepClass → Bool → List DyndepClass → Type 0 where
  binding_here : {flag : Bool} {more : List DyndepClass}
      → HasBinding (Binding flag ∷ more) flag more
  comment_before : {flag : Bool} {classes more : List DyndepClass}
      → HasBinding classes flag more → HasBinding (Comment ∷ classes) flag more

-- The lines after the version line list these statements, one for each build line, in order. A
-- statement has the flag of its binding. Without a binding the flag is off.
pub data IsDyndepBody : List DyndepClass → List StatementValue → Type 0 where
  body_end : IsDyndepBody [] []
  body_comment : {classes : List DyndepClass} {statements : List StatementValue}
      → IsDyndepBody classes statements → IsDyndepBody (Comment ∷ classes) statements
  body_blank : {classes : List DyndepClass} {statements : List StatementValue}
      → IsDyndepBody classes statements → IsDyndepBody (Blank ∷ classes) statements
  body_build : {output : PathText} {outputs inputs : List PathText} {classes : List DyndepClass}
      {statements : List StatementValue}
      → IsDyndepBody classes statements
      → IsDyndepBody (Build output outputs inputs ∷ classes)
      (statement_with output outputs inputs false ∷ statements)
  body_build_binding : {output : PathText} {outputs inputs : List PathText}
      {classes more : List DyndepClass} {flag : Bool} {statements : List StatementValue}
      → HasBinding classes flag more
      → IsDyndepBody more statements
      → IsDyndepBody (Build output outputs inputs ∷ classes)
      (statement_with output outputs inputs flag ∷ statements)

-- The lines are a complete dyndep file with these statements.
pub data IsDyndepFile : List DyndepClass → List StatementValue → Type 0 where
  comment_first : {classes : List DyndepClass} {statements : List StatementValue}
      → IsDyndepFile classes statements → IsDyndepFile (Comment ∷ classes) statements
  blank_first : {classes : List DyndepClass} {statements : List StatementValue}
      → IsDyndepFile classes statements → IsDyndepFile (Blank ∷ classes) statements
  version_line : {classes : List DyndepClass} {statements : List StatementValue}
      → IsDyndepBody classes statements → IsDyndepFile (Version ∷ classes) statements

-- Some dyndep file begins with lines of these classes.
abbrev pub BeginsDyndepFile : List DyndepClass → Type 0
BeginsDyndepFile classes =
    (more : List DyndepClass) × (statements : List StatementValue)
    × IsDyndepFile (classes ++ more) statements
