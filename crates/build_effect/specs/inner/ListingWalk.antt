-- How the row, the class and the cause of a line are found from its tokens, from left to right, and
-- what the line does to the edges so far. They are defined in `ListingLines.antt`,
-- `ListingFaults.antt` and `ListingGrammar.antt`.
use Rattle.std.specs.Prelude.{◌≡◌, ℕ, Bool, true, false, ◌&&◌, not, nat_lt, if◌then◌else◌, List, [], ◌∷◌, ◌++◌, length, codes, Option, Some, None, Result, Ok, Err, bytes_eq}
use Rattle.std.specs.Option.{option_and_then}
use Rattle.ninja_text.specs.Lexical.{lexical_fault}
use Rattle.ninja_text.specs.Tokens.{tokens, value_of}
use Rattle.ninja_text.specs.Assignments.{SeenAssignment, assignment_of}
use Rattle.ninja_text.specs.Paths.{path_of, is_empty}
use Rattle.ninja_text.specs.declared.fault.PathFault.{PathFault}
use Rattle.ninja_text.specs.declared.fault.LexFault.{LexFault}
use Rattle.ninja_text.specs.declared.lexing.TokenKind.TheVariants.{Bar, DoubleBar, Colon}
use Rattle.ninja_text.specs.Symbols.{Symbol, WordSymbol, symbols, begins_at_start, begins_with_space, after_build, front_words, past_words, past_sign, part_words, past_part}
use Rattle.build_effect.specs.ListingLines.{EdgeTexts, is_rule_name, Row, CommentRow, BlankRow, BuildRow, DyndepRow, RestatRow, ListingClass, Comment, Blank, Build, Dyndep, Restat}
use Rattle.build_effect.specs.EdgeValue.{EdgeValue}
use Rattle.build_effect.specs.ListingGrammar.{bound}
use Rattle.build_effect.specs.ListingSteps.{ListingValue}
use Rattle.build_effect.specs.declared.fault.LineCause.{LineCause}
use Rattle.build_effect.specs.declared.fault.LineCause.TheVariants.{Lexical, Form, BadPath}
use Rattle.build_effect.specs.declared.listing.Binding.{Binding}
use Rattle.build_effect.specs.declared.listing.Binding.TheVariants.{Closed, Open}

-- ---- the tokens of a build line

-- the build line with these outputs and these symbols after its colon: a rule and inputs of three
-- kinds; None if they are not a build line
abbrev pub right_texts : List (List ℕ) → List (List ℕ) → Option (List Symbol) → Option EdgeTexts
right_texts outputs implicit_outputs (Some (WordSymbol rule ∷ more)) =
    let bar = past_words more in
    let double_bar = past_part (past_sign Bar bar) bar in
    let rest = past_part (past_sign DoubleBar double_bar) double_bar in
    if not (is_empty outputs) && is_rule_name rule && is_empty rest then
    Some (record {
      rule = rule;
      outputs = outputs;
      implicit_outputs = implicit_outputs;
      inputs = front_words more;
      implicit_inputs = part_words (past_sign Bar bar);
      order_only = part_words (past_sign DoubleBar double_bar);
    })
    else None
right_texts outputs implicit_outputs other = None

-- the build line of the tokens after the keyword `build`; None if they are not a build line
abbrev pub edge_texts : List Symbol → Option EdgeTexts
edge_texts symbols =
    let bar = past_words symbols in
    let colon = past_part (past_sign Bar bar) bar in
    right_texts (front_words symbols) (part_words (past_sign Bar bar)) (past_sign Colon colon)

-- ---- the row of a line

-- the row of an indented line, given its assignment
abbrev pub binding_row : Option SeenAssignment → Result Row LineCause
binding_row None = Err Form
binding_row (Some a) =
    if bytes_eq a.name (codes "dyndep") then Ok (DyndepRow (value_of a.raw_value))
    else if bytes_eq a.name (codes "restat") then
    Ok (RestatRow (nat_lt 0 (length (value_of a.raw_value))))
    else Err Form

-- the row of a build line, or `Form` if the tokens are not a build line
abbrev pub build_row : Option EdgeTexts → Result Row LineCause
build_row (Some texts) = Ok (BuildRow texts)
build_row None = Err Form

-- the row of a line that is not indented, given its tokens after the keyword `build`, if it begins
-- with it
abbrev pub unindented_row : Option (List Symbol) → Result Row LineCause
unindented_row (Some symbols) = build_row (edge_texts symbols)
unindented_row None = Err Form

-- the row of a text that is not a comment and has no lexical error
abbrev pub sound_row : List ℕ → Result Row LineCause
sound_row text =
    if is_empty (tokens text) then Ok BlankRow
    else if begins_with_space text then binding_row (assignment_of text)
    else unindented_row (after_build (begins_at_start (tokens text)) (symbols text))

-- the lexical error if there is one, and otherwise the row
abbrev pub row_or_fault : Option LexFault → Result Row LineCause → Result Row LineCause
row_or_fault (Some fault) row = Err (Lexical fault)
row_or_fault None row = row

-- The row of a line, given its text without the end, and whether it is a comment. If it has no row,
-- its lexical error or `Form`.
abbrev pub row_of : List ℕ → Bool → Result Row LineCause
row_of text comment =
    if comment then Ok CommentRow else row_or_fault (lexical_fault text) (sound_row text)

-- ---- the class of a line

-- the path in front of the other paths, or the error of the first string that is not a valid path
abbrev pub with_path : Result (List ℕ) PathFault → Result (List (List ℕ)) PathFault
    → Result (List (List ℕ)) PathFault
with_path (Err fault) paths = Err fault
with_path (Ok path) (Err fault) = Err fault
with_path (Ok path) (Ok paths) = Ok (path ∷ paths)

-- the paths of strings, or the error of the first that is not a valid path
abbrev pub paths_of : List (List ℕ) → Result (List (List ℕ)) PathFault
paths_of [] = Ok []
paths_of (text ∷ texts) = with_path (path_of text) (paths_of texts)

-- what `next` makes of the paths, if they are valid
abbrev pub then_paths : {T : Type 0} → Result (List (List ℕ)) PathFault
    → (List (List ℕ) → Result T PathFault) → Result T PathFault
then_paths (Err fault) next = Err fault
then_paths (Ok paths) next = next paths

-- a build line's paths, or the error of its first string that is not a valid path
abbrev pub edge_paths : EdgeTexts → Result EdgeTexts PathFault
edge_paths t =
    then_paths (paths_of t.outputs) (λ outputs.
    then_paths (paths_of t.implicit_outputs) (λ implicit_outputs.
    then_paths (paths_of t.inputs) (λ inputs.
    then_paths (paths_of t.implicit_inputs) (λ implicit_inputs.
    then_paths (paths_of t.order_only) (λ order_only. Ok (record {
      rule = t.rule;
      outputs = outputs;
      implicit_outputs = implicit_outputs;
      inputs = inputs;
      implicit_inputs = implicit_inputs;
      order_only = order_only;
    }))))))

abbrev pub build_class : Result EdgeTexts PathFault → Result ListingClass PathFault
build_class (Ok paths) = Ok (Build paths)
build_class (Err fault) = Err fault

abbrev pub dyndep_class : Result (List ℕ) PathFault → Result ListingClass PathFault
dyndep_class (Ok path) = Ok (Dyndep path)
dyndep_class (Err fault) = Err fault

-- the class of a row, or the error of its first string that is not a valid path
abbrev pub class_of_row : Row → Result ListingClass PathFault
class_of_row CommentRow = Ok Comment
class_of_row BlankRow = Ok Blank
class_of_row (BuildRow texts) = build_class (edge_paths texts)
class_of_row (DyndepRow text) = dyndep_class (path_of text)
class_of_row (RestatRow flag) = Ok (Restat flag)

-- the line has a row, and the row has this class
abbrev pub FindsClass : List ℕ → Bool → ListingClass → Type 0
FindsClass text comment c =
    (row : Row) × (row_of text comment ≡ Ok row) × (class_of_row row ≡ Ok c)

-- ---- after which lines a line may come

-- whether a line may come in this state of the bindings: after a build line each binding may come
-- once
abbrev pub may_stand : Binding → Row → Bool
may_stand binding CommentRow = true
may_stand binding BlankRow = true
may_stand binding (BuildRow texts) = true
may_stand Closed (DyndepRow text) = false
may_stand Closed (RestatRow flag) = false
may_stand (Open dyndep restat) (DyndepRow text) = not dyndep
may_stand (Open dyndep restat) (RestatRow flag) = not restat

-- ---- the cause of a line

-- the cause of a line, given the class of its row or the error of its first invalid path
abbrev pub path_cause : Result ListingClass PathFault → Option LineCause
path_cause (Ok c) = None
path_cause (Err fault) = Some (BadPath fault)

-- the cause of a line, given its row: it has none, it may not come here, or one of its paths is not
-- valid
abbrev pub row_cause : Binding → Result Row LineCause → Option LineCause
row_cause binding (Err cause) = Some cause
row_cause binding (Ok row) =
    if may_stand binding row then path_cause (class_of_row row) else Some Form

-- the cause of a line, given its text without the end, and whether it is a comment
abbrev pub text_cause : Binding → List ℕ → Bool → Option LineCause
text_cause binding text comment = row_cause binding (row_of text comment)

-- ---- what one more line does to the edges so far

-- the edges, with this change to the last one
abbrev pub with_last : (EdgeValue → EdgeValue) → List EdgeValue → List EdgeValue
with_last change [] = []
with_last change (e ∷ []) = change e ∷ []
with_last change (e ∷ f ∷ es) = e ∷ with_last change (f ∷ es)

-- the edges, with this dyndep file in the last one
abbrev pub with_last_dyndep : List ℕ → List EdgeValue → List EdgeValue
with_last_dyndep path es = with_last (λ e. record e { dyndep = Some path }) es

-- the edges, with this value for `restat` in the last one
abbrev pub with_last_restat : Bool → List EdgeValue → List EdgeValue
with_last_restat flag es = with_last (λ e. record e { restat = flag }) es

-- What a line of this class does; None if it may not come here. A comment changes nothing. A blank
-- line closes the open edge. A build line opens an edge. A binding sets `dyndep` or `restat` of the
-- open edge, each at most once.
abbrev pub step : Binding → List EdgeValue → ListingClass → Option ListingValue
step binding es Comment = Some (record { edges = es; binding = binding })
step binding es Blank = Some (record { edges = es; binding = Closed })
step binding es (Build paths) =
    Some (record { edges = es ++ bound paths None None ∷ []; binding = Open false false })
step Closed es (Dyndep path) = None
step Closed es (Restat flag) = None
step (Open dyndep restat) es (Dyndep path) =
    if dyndep then None
    else Some (record { edges = with_last_dyndep path es; binding = Open true restat })
step (Open dyndep restat) es (Restat flag) =
    if restat then None
    else Some (record { edges = with_last_restat flag es; binding = Open dyndep true })

-- what lines of these classes do, one after another
abbrev pub run : Binding → List EdgeValue → List ListingClass → Option ListingValue
run binding es [] = Some (record { edges = es; binding = binding })
run binding es (c ∷ classes) =
    option_and_then (λ s. run s.binding s.edges classes) (step binding es c)
