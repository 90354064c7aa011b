-- The names that clauses and proofs cite most, passed on from one place. Declares nothing.
pub use Rattle.std.specs.Prelude.{not, List, [], map, length, is_some, IsErrAnd, IfOk, IfErr, OnOk, OnErr, IsTrue, nat_lt, nat_le, slice_index_or, slice_set, slice_range, MatchResult, All, None, Option, Result, Some, bytes_eq, codes, flat_map, option_and_then, option_map, position, unwrap_or, vec_len}
pub use Rattle.std.specs.Io.KnownBytes.{Consumes, IsAtEnd, Keeps}
pub use Rattle.std.specs.List.{AllByRecursion, list_all, list_any, position_from}
pub use Rattle.std.specs.Option.{option_or}
pub use Rattle.ninja_text.specs.AssignmentViews.{seen_assignment}
pub use Rattle.ninja_text.specs.Assignments.{SeenAssignment, assignment_of, Assigns}
pub use Rattle.ninja_text.specs.Bytes.{Bytes, line_feed}
pub use Rattle.ninja_text.specs.Counting.{held, failures, one_more, Counts, IsWritten, Call, IsTakenInTurn, IsStoppedInTurn}
pub use Rattle.ninja_text.specs.Escapes.{escaped, is_writable, IsWritable}
pub use Rattle.ninja_text.specs.Failure.{Gives, ForFault}
pub use Rattle.ninja_text.specs.FormatReading.{AreReadTo}
pub use Rattle.ninja_text.specs.Lexical.{lexical_fault}
pub use Rattle.ninja_text.specs.LineFormats.{IsOfClass, AreOfClasses, AreTextsOfClasses, Begins, IsFaultyAfter, FaultyLine, FaultyEnd, IsDecided}
pub use Rattle.ninja_text.specs.LineForms.{HasTokens}
pub use Rattle.ninja_text.specs.LineReading.{BeginsWith, IsNextFault, HasLentAll, FeedsLines, EndsLines}
pub use Rattle.ninja_text.specs.LineViews.{seen_line}
pub use Rattle.ninja_text.specs.Lines.{line_limit, is_comment, LineEnd, line_end, IsLine, Divides, text_of_line, LogicalLine}
pub use Rattle.ninja_text.specs.Paths.{is_empty}
pub use Rattle.ninja_text.specs.Symbols.{symbols, Symbol, WordSymbol, SignSymbol, symbol, symbol_of, begins_at_start, begins_with_space, after_build, IsPart, front_words, past_words, past_sign, part_words, past_part, words_of_part, symbols_past_part}
pub use Rattle.ninja_text.specs.TokenViews.{seen_token, symbols_left}
pub use Rattle.ninja_text.specs.Tokens.{tokens, TokenAt, is_word_kind, raw, value_of}
pub use Rattle.ninja_text.specs.declared.counting.Counted.{Counted}
pub use Rattle.ninja_text.specs.declared.failure.Failure.{Failure}
pub use Rattle.ninja_text.specs.declared.failure.Failure.TheVariants.{Fault, Memory}
pub use Rattle.ninja_text.specs.declared.fault.LexFault.{LexFault}
pub use Rattle.ninja_text.specs.declared.lexing.TokenKind.{TokenKind}
pub use Rattle.ninja_text.specs.declared.lexing.TokenKind.TheVariants.{Bar, BarAt, Colon, DoubleBar, Word}
pub use Rattle.dyndep_file.specs.Classes.{DyndepClass, Comment, Blank, Version, Build, Binding, IsBuild, is_version_one, IsDyndepLine}
pub use Rattle.dyndep_file.specs.FaultTexts.{line_fault_text, read_fault_text, write_fault_text}
pub use Rattle.dyndep_file.specs.Faults.{is_version, is_comment_class, is_open, stage_after, implicit_inputs_fault, after_rule_fault, rule_fault, implicit_outputs_fault, after_output_fault, output_fault, indented_fault, version_fault, build_fault, value_assigned, build_or_other_fault, unindented_fault, text_fault, lexical_fault_or, text_line_fault, line_fault}
pub use Rattle.dyndep_file.specs.Grammar.{HasBinding, binding_here, comment_before, IsDyndepBody, body_end, body_comment, body_blank, body_build, body_build_binding, IsDyndepFile, comment_first, blank_first, version_line, BeginsDyndepFile}
pub use Rattle.dyndep_file.specs.Laws.{OneList, NotBoth, OneOfBoth, OneReadFault, GoesOnUnrefused, FaultStays, OnlyTooLong, TooLongIfWritable, FirstFault}
pub use Rattle.dyndep_file.specs.Reader.{LeadToStatements, DyndepReaderState, HasReadDyndep, IsReadFaultIn, IsReadFailureIn, IsReadFaultOf, FeedsDyndep, IsFaultAtEnd, EndsDyndepFile}
pub use Rattle.dyndep_file.specs.Reading.{dyndep_format, StandsFor, StandsForOnly, FaultAt, IsEndFault, dyndep_faults, HasReadFault}
pub use Rattle.dyndep_file.specs.ReadingAll.{buffer_len, ReadTurn, bytes_of, bytes_read, GivesSome, ReadsInTurn, LastCall, AtEnd, Failed, Refused, NotMade, last_bytes, has_failed, IsLastCall, Answer, AnswersLastCall, IsReadFrom}
pub use Rattle.dyndep_file.specs.StatementValue.{StatementValue, statement_with}
pub use Rattle.dyndep_file.specs.Steps.{ProgressValue, with_last_restat, step, run}
pub use Rattle.dyndep_file.specs.Texts.{TextValue, IsTextOf, IsFinished}
pub use Rattle.dyndep_file.specs.WriteFaults.{paths_of, statement_fault, fault_from, write_fault, text_unless, text_or_fault, CanBeWritten, LeavesWriter, StopsInTurn, WritesInTurn, AnswersWriteFault}
pub use Rattle.dyndep_file.specs.Writing.{spaced, part_text, build_line, binding_line, statement_text, dyndep_text}
pub use Rattle.dyndep_file.specs.inner.BuildLines.{Names, IsNamed, misplaced, IsFailureOf, TakesOr, TakesOutput, TakesOutputs, TakesInputs}
pub use Rattle.dyndep_file.specs.inner.LineReading.{PassesOr, IsBuildOf, with_name, IsBindingOf, IsVersionLineOf}
pub use Rattle.dyndep_file.specs.inner.LineStates.{PassesLine, RefusesLine, fault_of_cutter, answer_at_end}
pub use Rattle.dyndep_file.specs.inner.Paths.{texts, lent_texts}
pub use Rattle.dyndep_file.specs.declared.fault.LineFault.{LineFault}
pub use Rattle.dyndep_file.specs.declared.fault.LineFault.TheVariants.{BadLine, BadRule, ExplicitInput, LineTooLong, NoOutput, NoVersion, SecondOutput, Truncated}
pub use Rattle.dyndep_file.specs.declared.fault.ReadFault.{ReadFault}
pub use Rattle.dyndep_file.specs.declared.fault.ReadFault.TheVariants.{AtLine, Io}
pub use Rattle.dyndep_file.specs.declared.fault.WriteFault.{WriteFault}
pub use Rattle.dyndep_file.specs.declared.fault.WriteFault.TheVariants.{StatementTooLong, Unwritable}
pub use Rattle.dyndep_file.specs.declared.progress.Stage.{Stage}
pub use Rattle.dyndep_file.specs.declared.progress.Stage.TheVariants.{BeforeVersion, NoneOpen, Open}
