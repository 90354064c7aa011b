-- The cause of a faulty line of an edge list, given the lines before it. Lexical errors come first,
-- then its form, then its paths.
use Rattle.std.specs.Prelude.{◌≡◌, ◌<◌, ◌≤◌, Bool, false, List, [], ◌∷◌, ◌++◌, length, Some, None, Err}
use Rattle.ninja_text.specs.Bytes.{Text, PathText}
use Rattle.ninja_text.specs.Lines.{line_limit, text_of_line, is_comment}
use Rattle.ninja_text.specs.Lexical.{lexical_fault}
use Rattle.ninja_text.specs.Paths.{path_of}
use Rattle.ninja_text.specs.declared.fault.PathFault.{PathFault}
use Rattle.build_effect.specs.Effect.{ArePaths}
use Rattle.build_effect.specs.ListingLines.{Row, CommentRow, BlankRow, BuildRow, DyndepRow, RestatRow, TextIsOfRow, ListingClass, Comment, Blank, Build, Dyndep, Restat}
use Rattle.build_effect.specs.ListingGrammar.{BeginsListing}
use Rattle.build_effect.specs.declared.fault.LineCause.{LineCause}
use Rattle.build_effect.specs.declared.fault.LineCause.TheVariants.{LineTooLong, Lexical, Form, BadPath}

-- the strings of a row that have to be paths, from left to right
abbrev pub path_texts : Row → List PathText
path_texts CommentRow = []
path_texts BlankRow = []
path_texts (BuildRow t) =
    t.outputs ++ t.implicit_outputs ++ t.inputs ++ t.implicit_inputs ++ t.order_only
path_texts (DyndepRow text) = text ∷ []
path_texts (RestatRow flag) = []

-- The first of these strings that is not a valid path has this error.
pub record IsFirstRefused (texts : List Text) (fault : PathFault) : Type 0 where
  pub before : List Text
  pub text : Text
  pub after : List Text
  pub whole : texts ≡ before ++ text ∷ after
  pub paths : List PathText
  pub are : ArePaths before paths
  pub refused : path_of text ≡ Err fault

-- the class that a row would have if its strings were canonical paths
abbrev pub as_class : Row → ListingClass
as_class CommentRow = Comment
as_class BlankRow = Blank
as_class (BuildRow texts) = Build texts
as_class (DyndepRow text) = Dyndep text
as_class (RestatRow flag) = Restat flag

-- A line of this row may come after lines of these classes, whatever its strings are.
abbrev pub MayStand : List ListingClass → Row → Type 0
MayStand classes row = BeginsListing (classes ++ as_class row ∷ [])

-- The cause of a line after lines of these classes, given its text without the end, and whether it
-- is a comment. It is the first that applies: a lexical error; `Form`, if the line has no row that
-- may come here; the error of its first string that is not a valid path.
abbrev pub IsTextCause : List ListingClass → Text → Bool → LineCause → Type 0
IsTextCause classes text comment (Lexical fault) =
    (comment ≡ false) × (lexical_fault text ≡ Some fault)
IsTextCause classes text comment Form =
    (comment ≡ false) × (lexical_fault text ≡ None)
    × ((row : Row) → TextIsOfRow text comment row → MayStand classes row → ⊥)
IsTextCause classes text comment (BadPath fault) =
    (row : Row) × TextIsOfRow text comment row × MayStand classes row
    × IsFirstRefused (path_texts row) fault
IsTextCause classes text comment other = ⊥

-- The cause of a line, including its end: the line is too long, or otherwise the cause of its text.
abbrev pub IsLineCause : List ListingClass → Text → LineCause → Type 0
IsLineCause classes line LineTooLong = line_limit < length line
IsLineCause classes line cause =
    (length line ≤ line_limit) × IsTextCause classes (text_of_line line) (is_comment line) cause
