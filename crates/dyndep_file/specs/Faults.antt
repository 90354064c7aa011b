-- The error of a line of a dyndep file, given the lines before it, in two tables: one for lines,
-- and one for the tokens of a build line. Both follow the Ninja 1.11 manual, "Dyndep file
-- reference".
use Rattle.std.specs.Prelude.{bytes_eq, ℕ, Bool, true, false, ◌==◌, ◌&&◌, ◌||◌, not, nat_lt, if◌then◌else◌, is_some, List, [], ◌∷◌, length, codes, Option, Some, None}
use Rattle.std.specs.List.{list_any, list_all}
use Rattle.ninja_text.specs.Bytes.{Text, Name}
use Rattle.ninja_text.specs.Paths.{is_empty}
use Rattle.ninja_text.specs.Lines.{line_limit, is_comment, text_of_line}
use Rattle.ninja_text.specs.Lexical.{lexical_fault}
use Rattle.ninja_text.specs.Tokens.{tokens, value_of}
use Rattle.ninja_text.specs.declared.lexing.TokenKind.TheVariants.{Word, Bar, DoubleBar, BarAt, Colon}
use Rattle.ninja_text.specs.Assignments.{SeenAssignment, assignment_of}
use Rattle.ninja_text.specs.declared.fault.LexFault.{LexFault}
use Rattle.ninja_text.specs.Symbols.{Symbol, WordSymbol, SignSymbol, symbols, begins_at_start, begins_with_space, after_build}
use Rattle.dyndep_file.specs.Classes.{DyndepClass, Comment, Version, Build, is_version_one}
use Rattle.dyndep_file.specs.declared.fault.LineFault.{LineFault}
use Rattle.dyndep_file.specs.declared.fault.LineFault.TheVariants.{LineTooLong, Lexical, NoVersion, BadVersion, SecondVersion, Indent, BadLine}
use Rattle.dyndep_file.specs.declared.fault.LineFault.TheVariants.{NoOutput, SecondOutput, BadRule, ExplicitInput, OrderOnly, Validation, BadBinding}
use Rattle.dyndep_file.specs.declared.progress.Stage.{Stage}
use Rattle.dyndep_file.specs.declared.progress.Stage.TheVariants.{BeforeVersion, NoneOpen, Open}

-- ---- the columns of the table of lines: what comes before a line

-- whether a line is a version line
abbrev pub is_version : DyndepClass → Bool
is_version Version = true
is_version other = false

-- whether a line is a build line
abbrev pub is_build : DyndepClass → Bool
is_build (Build output outputs inputs) = true
is_build other = false

-- whether a line is a comment
abbrev pub is_comment_class : DyndepClass → Bool
is_comment_class Comment = true
is_comment_class other = false

-- whether a statement is open: only comments follow the last build line
abbrev pub is_open : List DyndepClass → Bool
is_open [] = false
is_open (c ∷ classes) = (is_build c && list_all is_comment_class classes) || is_open classes

-- the column for a line after lines of these classes: before the version line, no statement open,
-- or a statement open
abbrev pub stage_after : List DyndepClass → Stage
stage_after classes =
    if not (list_any is_version classes) then BeforeVersion
    else if is_open classes then Open
    else NoneOpen

-- ---- the table of build lines: the first token after `build` that does not fit is the error

-- the error in the tokens from the implicit inputs on
abbrev pub implicit_inputs_fault : List Symbol → Option LineFault
implicit_inputs_fault [] = None
implicit_inputs_fault (WordSymbol word ∷ more) = implicit_inputs_fault more
implicit_inputs_fault (SignSymbol DoubleBar ∷ more) = Some OrderOnly
implicit_inputs_fault (SignSymbol BarAt ∷ more) = Some Validation
implicit_inputs_fault (SignSymbol other ∷ more) = Some BadLine

-- the error in the tokens after the rule; `|` begins the implicit inputs
abbrev pub after_rule_fault : List Symbol → Option LineFault
after_rule_fault [] = None
after_rule_fault (WordSymbol word ∷ more) = Some ExplicitInput
after_rule_fault (SignSymbol Bar ∷ more) = implicit_inputs_fault more
after_rule_fault (SignSymbol DoubleBar ∷ more) = Some OrderOnly
after_rule_fault (SignSymbol BarAt ∷ more) = Some Validation
after_rule_fault (SignSymbol other ∷ more) = Some BadLine

-- the error in the tokens after `:`; the first one is the rule `dyndep`, without escapes
abbrev pub rule_fault : List Symbol → Option LineFault
rule_fault [] = Some BadRule
rule_fault (WordSymbol word ∷ more) =
    if bytes_eq word (codes "dyndep") then after_rule_fault more else Some BadRule
rule_fault (SignSymbol other ∷ more) = Some BadRule

-- the error in the tokens from the implicit outputs on; `:` ends the implicit outputs
abbrev pub implicit_outputs_fault : List Symbol → Option LineFault
implicit_outputs_fault [] = Some BadLine
implicit_outputs_fault (WordSymbol word ∷ more) = implicit_outputs_fault more
implicit_outputs_fault (SignSymbol Colon ∷ more) = rule_fault more
implicit_outputs_fault (SignSymbol DoubleBar ∷ more) = Some OrderOnly
implicit_outputs_fault (SignSymbol BarAt ∷ more) = Some Validation
implicit_outputs_fault (SignSymbol other ∷ more) = Some BadLine

-- the error in the tokens after the output; `|` begins the implicit outputs, and the rule follows
-- `:`
abbrev pub after_output_fault : List Symbol → Option LineFault
after_output_fault [] = Some BadLine
after_output_fault (WordSymbol word ∷ more) = Some SecondOutput
after_output_fault (SignSymbol Bar ∷ more) = implicit_outputs_fault more
after_output_fault (SignSymbol Colon ∷ more) = rule_fault more
after_output_fault (SignSymbol DoubleBar ∷ more) = Some OrderOnly
after_output_fault (SignSymbol BarAt ∷ more) = Some Validation
after_output_fault (SignSymbol Word ∷ more) = Some BadLine

-- the error in the tokens after the keyword; the first one is the output
abbrev pub output_fault : List Symbol → Option LineFault
output_fault [] = Some NoOutput
output_fault (WordSymbol word ∷ more) = after_output_fault more
output_fault (SignSymbol other ∷ more) = Some NoOutput

-- ---- the rows of the table of lines: the error of such a line in each column

-- an indented line, given whether it is an assignment to `restat`
abbrev pub indented_fault : Stage → Bool → Option LineFault
indented_fault BeforeVersion restat = Some NoVersion
indented_fault NoneOpen restat = Some Indent
indented_fault Open restat = if restat then None else Some BadBinding

-- a version line, given its value
abbrev pub version_fault : Stage → Text → Option LineFault
version_fault BeforeVersion value = if is_version_one value then None else Some BadVersion
version_fault NoneOpen value = Some SecondVersion
version_fault Open value = Some SecondVersion

-- a build line, given the tokens after its keyword
abbrev pub build_fault : Stage → List Symbol → Option LineFault
build_fault BeforeVersion more = Some NoVersion
build_fault NoneOpen more = output_fault more
build_fault Open more = output_fault more

-- any other line
abbrev pub other_fault : Stage → LineFault
other_fault BeforeVersion = NoVersion
other_fault NoneOpen = BadLine
other_fault Open = BadLine

-- ---- the row of a line, and its error

-- the offset of the name, and the value, if the line is an assignment to this name; None for any
-- other line
abbrev pub value_assigned : Name → Option SeenAssignment → Option (ℕ × Text)
value_assigned name None = None
value_assigned name (Some a) =
    if bytes_eq a.name name then Some (a.name_start, value_of a.raw_value) else None

-- a line that is neither indented nor a version line, given its tokens after `build`, if it is a
-- build line
abbrev pub build_or_other_fault : Stage → Option (List Symbol) → Option LineFault
build_or_other_fault stage (Some more) = build_fault stage more
build_or_other_fault stage None = Some (other_fault stage)

-- A line that is not indented, given its assignment to the version, if it is one, and its tokens
-- after `build`, if it is a build line. An assignment to the version is a version line only if it
-- begins at the first byte.
abbrev pub unindented_fault : Stage → Option (ℕ × Text) → Option (List Symbol)
    → Option LineFault
unindented_fault stage (Some version) build =
    if version.0 == 0 then version_fault stage version.1
    else build_or_other_fault stage build
unindented_fault stage None build = build_or_other_fault stage build

-- The error of a text that is not a comment and has no lexical error. A blank line has no token and
-- no error.
abbrev pub text_fault : Stage → Text → Option LineFault
text_fault stage text =
    let restat = is_some (value_assigned (codes "restat") (assignment_of text)) in
    if is_empty (tokens text) then None
    else if begins_with_space text then indented_fault stage restat
    else unindented_fault stage (value_assigned (codes "ninja_dyndep_version") (assignment_of text))
    (after_build (begins_at_start (tokens text)) (symbols text))

-- the lexical error, or the other one if there is no lexical error
abbrev pub lexical_fault_or : Option LexFault → Option LineFault → Option LineFault
lexical_fault_or (Some fault) otherwise = Some (Lexical fault)
lexical_fault_or None otherwise = otherwise

-- The error of a line, given its text without the end, and whether it is a comment. A comment has
-- no error.
abbrev pub text_line_fault : Stage → Text → Bool → Option LineFault
text_line_fault stage text comment =
    if comment then None else lexical_fault_or (lexical_fault text) (text_fault stage text)

-- the error of a line, including its end, if it has one
abbrev pub line_fault : Stage → Text → Option LineFault
line_fault stage line =
    if nat_lt line_limit (length line) then Some LineTooLong
    else text_line_fault stage (text_of_line line) (is_comment line)
