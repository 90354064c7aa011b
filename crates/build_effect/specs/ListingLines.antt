-- The kinds of lines of an edge list (Ninja 1.11 manual, "Build statements", "Lexical syntax").
use Rattle.std.specs.Prelude.{◌≡◌, ◌≢◌, ℕ, Bool, true, false, ◌&&◌, not, nat_lt, IsTrue, List, [], ◌∷◌, ◌++◌, length, map, codes, None, Ok}
use Rattle.std.specs.List.{list_all}
use Rattle.ninja_text.specs.Bytes.{Text, PathText, Name}
use Rattle.ninja_text.specs.Lexical.{lexical_fault}
use Rattle.ninja_text.specs.Tokens.{tokens, value_of}
use Rattle.ninja_text.specs.Assignments.{is_identifier_byte, Assigns}
use Rattle.ninja_text.specs.Paths.{path_of, is_empty}
use Rattle.ninja_text.specs.declared.lexing.TokenKind.TheVariants.{Bar, DoubleBar, Colon}
use Rattle.ninja_text.specs.Symbols.{Symbol, WordSymbol, SignSymbol, symbols, begins_at_start, begins_with_space, IsPart}
use Rattle.build_effect.specs.Effect.{ArePaths}

-- The parts of a build line: the name of a rule, and five lists of raw words, strings or paths.
pub record EdgeTexts : Type 0 where
  pub rule : Name
  pub outputs : List PathText
  pub implicit_outputs : List PathText
  pub inputs : List PathText
  pub implicit_inputs : List PathText
  pub order_only : List PathText

-- whether a rule may have this name: one or more letters, digits, `_`, `.` and `-`
abbrev pub is_rule_name : Name → Bool
is_rule_name name = not (is_empty name) && list_all is_identifier_byte name

-- The tokens are
--
--     build outputs | implicit outputs : rule inputs | implicit inputs || order-only inputs
--
-- and there is at least one output. A part with `|` or `||` may be missing or empty. The words are
-- given by their raw bytes.
abbrev pub IsEdgeLine : List Symbol → EdgeTexts → Type 0
IsEdgeLine symbols words =
    (made needed waited_for : List Symbol) × IsPart Bar made words.implicit_outputs
    × IsPart Bar needed words.implicit_inputs
    × IsPart DoubleBar waited_for words.order_only
    × (words.outputs ≢ []) × IsTrue (is_rule_name words.rule)
    × (symbols ≡ WordSymbol (codes "build") ∷ map WordSymbol words.outputs ++ made
    ++ SignSymbol Colon ∷ WordSymbol words.rule ∷ map WordSymbol words.inputs ++ needed
    ++ waited_for)

-- the build line with the values of its words; the name of a rule has no escapes
abbrev pub meant : EdgeTexts → EdgeTexts
meant words = record {
  rule = words.rule;
  outputs = map value_of words.outputs;
  implicit_outputs = map value_of words.implicit_outputs;
  inputs = map value_of words.inputs;
  implicit_inputs = map value_of words.implicit_inputs;
  order_only = map value_of words.order_only;
}

-- ---- rows: the kind of a line, with strings instead of paths

-- A comment, a blank line, a build line with its strings, or a binding of `dyndep` or `restat`.
pub data Row : Type 0 where
  CommentRow : Row
  BlankRow : Row
  BuildRow : EdgeTexts → Row
  DyndepRow : Text → Row
  RestatRow : Bool → Row

-- A line has this row, given its text without the end, and whether it is a comment. A comment may
-- contain any bytes; every other line has no lexical error. A blank line has no token. A build line
-- begins at its first byte, and its strings are the values of its words. A binding is indented, and
-- `restat` is on if the value is not empty.
abbrev pub TextIsOfRow : Text → Bool → Row → Type 0
TextIsOfRow text comment CommentRow = comment ≡ true
TextIsOfRow text comment BlankRow =
    (comment ≡ false) × (lexical_fault text ≡ None) × (tokens text ≡ [])
TextIsOfRow text comment (BuildRow texts) =
    (comment ≡ false) × (lexical_fault text ≡ None) × IsTrue (begins_at_start (tokens text))
    × (words : EdgeTexts) × IsEdgeLine (symbols text) words × (texts ≡ meant words)
TextIsOfRow text comment (DyndepRow value) =
    (comment ≡ false) × (lexical_fault text ≡ None) × IsTrue (begins_with_space text)
    × (start : ℕ) × Assigns text (codes "dyndep") start value
TextIsOfRow text comment (RestatRow flag) =
    (comment ≡ false) × (lexical_fault text ≡ None) × IsTrue (begins_with_space text)
    × (start : ℕ) × (value : Text) × Assigns text (codes "restat") start value
    × (flag ≡ nat_lt 0 (length value))

-- ---- classes: the kind of a line, with its paths

-- A comment, a blank line, a build line with its paths, or a binding of `dyndep` or `restat`.
pub data ListingClass : Type 0 where
  Comment : ListingClass
  Blank : ListingClass
  Build : EdgeTexts → ListingClass
  Dyndep : PathText → ListingClass
  Restat : Bool → ListingClass

-- `paths` has the rule of `texts` and the canonical paths of its strings.
pub record AreEdgePaths (texts paths : EdgeTexts) : Type 0 where
  pub rule : paths.rule ≡ texts.rule
  pub outputs : ArePaths texts.outputs paths.outputs
  pub implicit_outputs : ArePaths texts.implicit_outputs paths.implicit_outputs
  pub inputs : ArePaths texts.inputs paths.inputs
  pub implicit_inputs : ArePaths texts.implicit_inputs paths.implicit_inputs
  pub order_only : ArePaths texts.order_only paths.order_only

-- A line of this row has this class: each string that has to be a path is valid, and the class has
-- the canonical paths.
abbrev pub RowIsOfClass : Row → ListingClass → Type 0
RowIsOfClass CommentRow c = c ≡ Comment
RowIsOfClass BlankRow c = c ≡ Blank
RowIsOfClass (BuildRow texts) c =
    (paths : EdgeTexts) × AreEdgePaths texts paths × (c ≡ Build paths)
RowIsOfClass (DyndepRow text) c = (path : PathText) × (path_of text ≡ Ok path) × (c ≡ Dyndep path)
RowIsOfClass (RestatRow flag) c = c ≡ Restat flag

-- A line has this class, given its text without the end, and whether it is a comment.
abbrev pub IsListingLine : Text → Bool → ListingClass → Type 0
IsListingLine text comment c = (row : Row) × TextIsOfRow text comment row × RowIsOfClass row c
