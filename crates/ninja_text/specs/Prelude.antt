-- The names that most clauses cite, passed on from one place. Declares nothing.
pub use Rattle.std.specs.Prelude.{[], All, Err, IfOk, IfSome, IsTrue, IsUtf8, List, MatchOption, MatchResult, None, Ok, OnErr, OnOk, Option, Result, Some, drop, false, is_err, length, not, option_copied, option_map, position, slice_range, take, true, ℕ, ⊤}
pub use Rattle.std.specs.List.{AllByRecursion, list_any, prefix_len}
pub use Rattle.std.specs.Option.{ForSome}
pub use Rattle.std.specs.Rc.{rc_slice_items}
pub use Rattle.std.specs.Result.{result_err}
pub use Rattle.ninja_text.specs.Bytes.{Bytes, Component, PathText, Text, slash}
pub use Rattle.ninja_text.specs.Failure.{ForFault, Gives, Turns, failure_text}
pub use Rattle.ninja_text.specs.FaultTexts.{cut_fault_text, lex_fault_text, path_fault_text}
pub use Rattle.ninja_text.specs.Escapes.{IsWritable, Spells, escaped, is_escaped, is_unwritable, is_writable}
pub use Rattle.ninja_text.specs.Reduction.{ReducesTo, components, is_current, is_parent, reduced}
pub use Rattle.ninja_text.specs.Paths.{IsPath, below, canonical_of, is_rooted, path_of, placed, seen_from}
pub use Rattle.ninja_text.specs.PathShape.{IsShaped, parts}
pub use Rattle.ninja_text.specs.NameBeginnings.{begins_component}
pub use Rattle.ninja_text.specs.Units.{unit_len, units}
pub use Rattle.ninja_text.specs.Lines.{Divides, LogicalLine, is_comment, line_feeds_in, text_of_line}
pub use Rattle.ninja_text.specs.Lexical.{lexical_fault, unit_fault}
pub use Rattle.ninja_text.specs.Tokens.{IsSlice, RiseFrom, TokenAt, is_blank, is_keyword, seen_tokens, tokens, tokens_at, value_of}
pub use Rattle.ninja_text.specs.Symbols.{SignTaken, WordTaken}
pub use Rattle.ninja_text.specs.TokenLists.{AreTokens}
pub use Rattle.ninja_text.specs.TokenViews.{IsWords, seen_token, symbols_left, tokens_left}
pub use Rattle.ninja_text.specs.Assignments.{LiesIn, assignment_of, is_name_unit}
pub use Rattle.ninja_text.specs.AssignmentViews.{IsAssignment, seen_assignment}
pub use Rattle.ninja_text.specs.LineForms.{IsLineForm}
pub use Rattle.ninja_text.specs.Meanings.{IsFaultless, IsReadAsSpelled, IsValueAsSpelled, SpellsValue}
pub use Rattle.ninja_text.specs.Scanning.{scan_from, step_of}
pub use Rattle.ninja_text.specs.Cutting.{Cuts, Feeds, FeedsAll, Finishes, new_cutter}
pub use Rattle.ninja_text.specs.LineViews.{Lends, seen_line}
pub use Rattle.ninja_text.specs.LineReading.{EndsLines, FeedsLines, HasLent, HasLentAll, LinesRead, ReadsLine, StaysRefused}
pub use Rattle.ninja_text.specs.Phases.{PhaseFits}
pub use Rattle.ninja_text.specs.Counting.{Counts, IsCutShort, IsStoppedInTurn, IsTakenInTurn, IsWritten, failures, held, write_failed}
