-- The form of a line, which its beginning decides (Ninja 1.11 manual, "Lexical syntax", "Build
-- statements").
use Rattle.std.specs.Prelude.{◌≡◌, true, false, [], None, Some, Result, Ok, Err}
use Rattle.std.specs.Option.{option_map}
use Rattle.ninja_text.specs.Lines.{LogicalLine}
use Rattle.ninja_text.specs.Lexical.{lexical_fault}
use Rattle.ninja_text.specs.Tokens.{tokens}
use Rattle.ninja_text.specs.Paths.{is_empty}
use Rattle.ninja_text.specs.Symbols.{symbols, begins_at_start, begins_with_space, after_build}
use Rattle.ninja_text.specs.TokenViews.{symbols_left}
use Rattle.ninja_text.specs.Assignments.{assignment_of}
use Rattle.ninja_text.specs.AssignmentViews.{seen_assignment}
use Rattle.ninja_text.specs.declared.fault.LexFault.{LexFault}
use Rattle.ninja_text.specs.declared.forms.LineForm.{LineForm}
use Rattle.ninja_text.specs.declared.forms.LineForm.TheVariants.{Comment, Blank, Build, Indented, Unindented}

-- The line is not a comment, has no lexical error, and has a token.
pub record HasTokens (line : LogicalLine) : Type 0 where
  pub no_comment : line.comment ≡ false
  pub no_fault : lexical_fault line.text ≡ None
  pub some : is_empty (tokens line.text) ≡ false

-- What `line_form` returns. A comment may contain any bytes. Every other line has a lexical error,
-- and the first one is returned, or it has one of these forms: it has no token, it begins with the
-- keyword `build` at its first byte, it is indented, or it is neither. The last two forms may be an
-- assignment.
abbrev pub IsLineForm : LogicalLine → Result LineForm LexFault → Type 0
IsLineForm line (Ok Comment) = line.comment ≡ true
IsLineForm line (Ok Blank) =
    (line.comment ≡ false) × (lexical_fault line.text ≡ None) × (tokens line.text ≡ [])
IsLineForm line (Ok (Build words)) = HasTokens line
    × (after_build (begins_at_start (tokens line.text)) (symbols line.text)
    ≡ Some (symbols_left words))
IsLineForm line (Ok (Indented found)) = HasTokens line
    × (begins_with_space line.text ≡ true)
    × (option_map seen_assignment found ≡ assignment_of line.text)
IsLineForm line (Ok (Unindented found)) = HasTokens line
    × (begins_with_space line.text ≡ false)
    × (after_build (begins_at_start (tokens line.text)) (symbols line.text) ≡ None)
    × (option_map seen_assignment found ≡ assignment_of line.text)
IsLineForm line (Err fault) =
    (line.comment ≡ false) × (lexical_fault line.text ≡ Some fault)
