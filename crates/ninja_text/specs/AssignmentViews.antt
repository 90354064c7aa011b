-- The view of an assignment, and what `assignment` returns.
use Rattle.std.specs.Prelude.{◌≡◌, Option, None, Some, Result, Ok, Err}
use Rattle.std.specs.Option.{option_map}
use Rattle.ninja_text.specs.Lines.{LogicalLine}
use Rattle.ninja_text.specs.Lexical.{lexical_fault}
use Rattle.ninja_text.specs.Assignments.{SeenAssignment, assignment_of}
use Rattle.ninja_text.specs.declared.token.Assignment.{Assignment}
use Rattle.ninja_text.specs.declared.fault.LexFault.{LexFault}

abbrev pub seen_assignment : Assignment → SeenAssignment
seen_assignment a =
    record { name_start = a.name_start; name = a.name.now; raw_value = a.raw_value.now }

-- What `assignment` returns: the assignment, or None if the line is not one. If the line has
-- lexical errors, it returns the first.
abbrev pub IsAssignment : LogicalLine → Result (Option Assignment) LexFault → Type 0
IsAssignment line (Ok a) =
    (lexical_fault line.text ≡ None)
    × (option_map seen_assignment a ≡ assignment_of line.text)
IsAssignment line (Err fault) = lexical_fault line.text ≡ Some fault
