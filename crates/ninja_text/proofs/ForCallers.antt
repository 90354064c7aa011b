-- The lemmas that other crates cite. They are as settled as the public contracts; the other lemmas may
-- change.
-- A canonical path has the shape that its name promises, and can be escaped.
pub use Rattle.ninja_text.proofs.Shape.{shape, writable as path_writable}
-- A list of paths that is not empty, by the test and by the fact.
pub use Rattle.ninja_text.proofs.Shape.{empty-not}
pub use Rattle.ninja_text.proofs.Canonical.{some-list}
-- What holds of each element of two lists holds of each element of both, one after the other.
pub use Rattle.ninja_text.proofs.CutLemmas.{AllByRecursion-append}
-- Lines put one after another.
pub use Rattle.ninja_text.proofs.CutLemmas.{joined}
-- What follows a line changes nothing of its end.
pub use Rattle.ninja_text.proofs.CutLemmas.{line_end-append}
-- Every text is divided into lines and a rest.
pub use Rattle.ninja_text.proofs.CutLemmas.{divides_some}
-- In a text that begins with a space, neither a token nor an assignment's name begins at the first byte.
pub use Rattle.ninja_text.proofs.Spans.{token_indented, name_indented}
-- The name of an assignment is a slice of the text, and begins after the first blank run.
pub use Rattle.ninja_text.proofs.Spans.{Parts, assignment_parts}
-- A slice from the front of a text begins with the text's first byte.
pub use Rattle.ninja_text.proofs.Spans.{slice_first}
-- A text that is an assignment has a token.
pub use Rattle.ninja_text.proofs.AssignmentLemmas.{assignment_has_token, assignment_not_empty}
-- A token that is a keyword is that word, and a build line begins with the keyword at its first byte.
pub use Rattle.ninja_text.proofs.LineForms.{keyword_is, after_keyword, keyword_first, no_indent_at_token}
-- The words and the parts that a walk over the tokens of a build line finds are there.
pub use Rattle.ninja_text.proofs.Symbols.{raw_words, front_at, front_meant, part_symbols, part_raw, is_part, part_meant, sign_at, part_at}
-- A unit is sound if it is an escape that a path may need, or a byte by itself that neither ends a
-- line nor is a fault.
pub use Rattle.ninja_text.proofs.SpelledUnits.{is_sound}
-- The bytes of a unit, and those of units one after another; sound units are read back from them.
pub use Rattle.ninja_text.proofs.SpelledUnits.{unit_text, text_of_units, units_read}
-- The units of a text made of sound units are those, and it has no lexical fault.
pub use Rattle.ninja_text.proofs.SpelledLines.{units_are, lexical_none}
-- With an LF after it, such a text is a line, whose text it is.
pub use Rattle.ninja_text.proofs.SpelledLines.{is_line, text_is}
-- The units of an escaped path: they are its escaped form, are sound, and are pieces of a word.
pub use Rattle.ninja_text.proofs.EscapedPaths.{path_unit, path_units, path_text, path_sound, path_pieces}
-- If a path can be escaped, each of its bytes can be escaped.
pub use Rattle.ninja_text.proofs.EscapedPaths.{has_spelling}
-- What is read of an escaped path is the path.
pub use Rattle.ninja_text.proofs.EscapedPaths.{value_of_escaped}
-- A word continues if a piece follows; pieces after which no piece follows are one word.
pub use Rattle.ninja_text.proofs.SpelledTokens.{goes_on_piece, word_and, word_token}
-- Units yield tokens, seen by their kinds and bytes, if those are their tokens wherever the units are.
pub use Rattle.ninja_text.proofs.SpelledTokens.{viewed, Yields}
-- What no units yield, and what a space, a `:`, a `|` and a path yield in front of others.
pub use Rattle.ninja_text.proofs.SpelledTokens.{no_units, space_yields, colon_yields, bar_yields, path_yields}
-- A text without a fault, an end or a continuation, whose tokens are these; and bytes that are a word.
pub use Rattle.ninja_text.proofs.SpelledTexts.{Written, is_word}
-- The empty text is one, and stays one with a word, a path, a space, a `:` or a `|` in front of it.
pub use Rattle.ninja_text.proofs.SpelledTexts.{written_none, written_word, written_path, written_space, written_colon, written_bar}
-- Such a text has its tokens and no lexical fault.
pub use Rattle.ninja_text.proofs.SpelledTexts.{written_tokens, written_sound}
-- With an LF after it, it is a line, whose text it is, unless it is a comment.
pub use Rattle.ninja_text.proofs.SpelledTexts.{written_line, written_text}
-- The first token of one that begins with a word is at its beginning.
pub use Rattle.ninja_text.proofs.SpelledTexts.{First, written_first}
-- The elements of lists, by index: of mapped lists, of two lists, and of the first few of a list.
pub use Rattle.ninja_text.proofs.Lists.{same_some, same_cons, element_at, contained, placed, from_map, to_map, in_append, in_first, in_second, from_push, to_zip, from_take, in_take, map_take, take_next, to_the_end, zip_is_map}
-- The elements of lists put one after another: the parts of a list that `flat_map` makes.
pub use Rattle.ninja_text.proofs.Lists.{offset, InPart, in_flat_map, FromPart, from_flat_map}
-- The elements of a list that `filter_map` makes, and those that they are made of.
pub use Rattle.ninja_text.proofs.Lists.{FromItem, from_filter_map, in_filter_map}
-- A value whose result had its error mapped.
pub use Rattle.ninja_text.proofs.Lists.{with_other_error}
-- Numbers in one of three orders; a choice for each number makes a list.
pub use Rattle.ninja_text.proofs.Lists.{three_ways, choose}
-- Lists in which all differ, and what a search for a text says of them.
pub use Rattle.ninja_text.proofs.Lists.{differ_push, not_among, found_if, new_if}
-- A text of a format whose lines and ends are decided stands for one value or has one fault, not both.
pub use Rattle.ninja_text.proofs.LineFormats.{one_value, not_both, value_or_fault, one_fault}
-- Lines of some classes, and after them lines of others; the bytes of one line more.
pub use Rattle.ninja_text.proofs.LineFormats.{AreOfClasses-append, one_more_line}
-- What was read of a format's lines: all of a text, or what comes next is faulty.
pub use Rattle.ninja_text.proofs.FormatReading.{all_lent, faulty_next, faulty_rest, faulty_at_limit}
-- What a reader of a format's lines returns and leaves.
pub use Rattle.ninja_text.proofs.FormatReading.{fed, none_refused}
-- The test of what can be escaped means what the record says.
pub use Rattle.ninja_text.proofs.EscapedPaths.{writable as is_writable-meaning}
