-- The names that clauses and proofs cite most, passed on from one place. Declares nothing.
pub use Rattle.std.specs.Prelude.{ℕ, not, List, [], map, length, get_or, is_some, is_ok, IfOk, IfSome, IfErr, OnOk, IsTrue, nat_lt, slice_get, slice_index, slice_index_or, slice_set, slice_range, MatchOption, MatchResult, All, Contains, Err, HoldsAt, MatchBool, Ok, Option, Result, Some, bytes_eq, codes, filter_map, flat_map, option_and_then, option_copied, option_map, vec_len}
pub use Rattle.std.specs.Cmp.Lexicographic.{bytes_decides}
pub use Rattle.std.specs.HashMap.{hasher_of}
pub use Rattle.std.specs.Iterator.{YieldsFirstBy}
pub use Rattle.std.specs.List.{AllByRecursion, AllWithin, AllZip, each_same, list_all}
pub use Rattle.std.specs.Rc.{rc_slice_items}
pub use Rattle.std.specs.declared.alloc.Global.{Global}
pub use Rattle.std.specs.declared.rc.Rc.{Rc}
pub use Rattle.dep_order.specs.Needs.{NodeNeeds, NeedsAreNodes, IsOrderable}
pub use Rattle.dep_order.specs.Rows.{rows}
pub use Rattle.dep_order.specs.Sortings.{IsSortingOf}
pub use Rattle.dep_order.specs.declared.Sorting.{Sorting}
pub use Rattle.table_keys.specs.Keys.{HasAdded, IsKeyOf}
pub use Rattle.ninja_text.specs.AssignmentViews.{seen_assignment}
pub use Rattle.ninja_text.specs.Assignments.{is_identifier_byte, after_run, begins_with_equals, tail_units, SeenAssignment, with_bytes, assignment_of}
pub use Rattle.ninja_text.specs.Bytes.{Bytes, Text, line_feed}
pub use Rattle.ninja_text.specs.Counting.{held, IsWritten}
pub use Rattle.ninja_text.specs.Escapes.{escaped, is_unwritable, IsWritable, is_escaped, escaped_byte}
pub use Rattle.ninja_text.specs.Failure.{Gives, Turns, ForFault}
pub use Rattle.ninja_text.specs.Firsts.{IsFirstAt, AllDiffer, RepeatsFirst}
pub use Rattle.ninja_text.specs.FormatReading.{AreReadTo, Reads}
pub use Rattle.ninja_text.specs.Lexical.{lexical_fault}
pub use Rattle.ninja_text.specs.LineFormats.{IsOfClass, AreOfClasses, IsFaultyAfter, IsDecided}
pub use Rattle.ninja_text.specs.LineForms.{HasTokens}
pub use Rattle.ninja_text.specs.LineReading.{BeginsWith, IsNextFault, HasLentAll, FeedsLines, EndsLines}
pub use Rattle.ninja_text.specs.LineViews.{seen_line}
pub use Rattle.ninja_text.specs.Lines.{line_limit, is_comment, line_end, IsLine, Divides, text_of_line, LogicalLine, logical_line}
pub use Rattle.ninja_text.specs.Paths.{is_empty, path_of, IsPath}
pub use Rattle.ninja_text.specs.Symbols.{symbols, Symbol, WordSymbol, SignSymbol, symbol, begins_at_start, begins_with_space, after_build, IsPart, front_words, past_words, is_sign, past_sign, part_words, past_part, words_of_part, symbols_past_part}
pub use Rattle.ninja_text.specs.TokenViews.{seen_token, tokens_left, symbols_left}
pub use Rattle.ninja_text.specs.Tokens.{tokens, TokenAt, is_blank, is_piece, goes_on, tokens_from, raw, value_of}
pub use Rattle.ninja_text.specs.Units.{units}
pub use Rattle.ninja_text.specs.declared.failure.Failure.{Failure}
pub use Rattle.ninja_text.specs.declared.failure.Failure.TheVariants.{Fault, Memory}
pub use Rattle.ninja_text.specs.declared.fault.LexFault.{LexFault}
pub use Rattle.ninja_text.specs.declared.fault.PathFault.{PathFault}
pub use Rattle.ninja_text.specs.declared.token.Token.{Token}
pub use Rattle.ninja_text.specs.declared.lexing.TokenKind.{TokenKind}
pub use Rattle.ninja_text.specs.declared.lexing.TokenKind.TheVariants.{Bar, Colon, DoubleBar}
pub use Rattle.ninja_text.specs.declared.token.Words.{Words}
pub use Rattle.dyndep_file.specs.StatementValue.{StatementValue}
pub use Rattle.dyndep_file.specs.Writing.{spaced}
pub use Rattle.build_effect.specs.Checks.{ChecksSuffice, FaultsExclude}
pub use Rattle.build_effect.specs.DyndepFiles.{DyndepFileValue, HasOrderAfter}
pub use Rattle.build_effect.specs.EdgeValue.{EdgeValue}
pub use Rattle.build_effect.specs.Effect.{ArePaths, IsCanonical, AreCanonical, IsOn, IsTheOneOn, IsBound, AllBound, extended, Extends, Effect, OnlyEffect, HasNoEffect, EffectGives}
pub use Rattle.build_effect.specs.FaultTexts.{graph_fault_text, graph_fault_path, effect_fault_text, effect_fault_path}
pub use Rattle.build_effect.specs.Faults.{made_files, StandsBefore, NamesUnread, IsGraphFault, path_texts, IsNoPath, HasRefused, IsRepeated, NoneRepeated, IsMentioned, AllMentioned, added_outputs, IsMadeBefore, NoneMadeBefore, IsEffectFault}
pub use Rattle.build_effect.specs.Files.{NamedFile, AreFiles, FilesMeet, Applies, GainsExactly, AreFileIndices, AnyOrder, SameFiles, OrdersEndAlike}
pub use Rattle.build_effect.specs.Graphs.{made_by, inputs_of, HasInput, Names, MakesAt, IsMade, MadeOnce, DyndepsAreInputs, IsGraph, EdgeNeeds}
pub use Rattle.build_effect.specs.ListingFaultTexts.{line_cause_text, listing_line_fault_text, listing_fault_text, listing_write_fault_text}
pub use Rattle.build_effect.specs.ListingFaults.{IsFirstRefused, as_class, IsTextCause, IsLineCause}
pub use Rattle.build_effect.specs.ListingGrammar.{HasBindings, no_more_bindings, comment_between, dyndep_binding, restat_binding, bound, IsListing, listing_end, listing_comment, listing_blank, listing_build, BeginsListing}
pub use Rattle.build_effect.specs.ListingLaws.{IsListable, WrittenListing, ListingFaultStays}
pub use Rattle.build_effect.specs.ListingLines.{Build, EdgeTexts, is_rule_name, IsEdgeLine, meant, Row, CommentRow, BlankRow, BuildRow, DyndepRow, RestatRow, TextIsOfRow, ListingClass, Comment, Blank, Dyndep, Restat, AreEdgePaths, RowIsOfClass, IsListingLine}
pub use Rattle.build_effect.specs.ListingReaders.{LeadToEdges, ListingReaderState, HasReadListing, IsListingFaultIn, FeedsListing, line_failure, EndsListing, IsListingFault}
pub use Rattle.build_effect.specs.ListingReading.{listing_format, Lists, IsEndCause, listing_faults, HasFaultyLine, HasFaultyEnd, HasListingFault, OneListing, ListedIsFaultless, ListingOrFault, OneListingFault, OneClass, LineOrCause, CauseIsFaulty, OneCause, ClassHasForm}
pub use Rattle.build_effect.specs.ListingSteps.{ListingValue, left_open, open_from}
pub use Rattle.build_effect.specs.ListingWriting.{marked_text, left_text, right_text, edge_line, dyndep_line, restat_line, edge_text, listing_text, is_too_long, too_long_from, first_too_long, listing_text_unless, listing_text_or_fault, LeavesListingWriter, WritesListingInTurn, AnswersTooLong}
pub use Rattle.build_effect.specs.Numbering.{HasOutputsOnly, IsRisingNumbering, IsLevelNumbering, LevelOrders, rank_at, AreOrdered, IsAboveOthers, FilesOrder}
pub use Rattle.build_effect.specs.Premises.{AddsAt, AddedOnce, MeetsPremises, AdditionNeeds, OneEffect}
pub use Rattle.build_effect.specs.inner.Added.{addition_of, added_files, IsFirstAddedTwice}
pub use Rattle.build_effect.specs.inner.BadPaths.{IsBadText, IsBadTextFrom, IsBadTextOf, IsBadStatement}
pub use Rattle.build_effect.specs.inner.Checked.{AreMatched, AreChecked, IsFaultOf}
pub use Rattle.build_effect.specs.inner.Extended.{IsEdgeAfter, AreExtended}
pub use Rattle.build_effect.specs.inner.Inputs.{Has, NamesInput}
pub use Rattle.build_effect.specs.inner.ListingRows.{TakesRow, GivesEdge}
pub use Rattle.build_effect.specs.inner.ListingWalk.{right_texts, edge_texts, binding_row, build_row, unindented_row, sound_row, row_of, with_path, paths_of, then_paths, edge_paths, build_class, dyndep_class, class_of_row, FindsClass, may_stand, path_cause, row_cause, text_cause, with_last, with_last_dyndep, with_last_restat, step, run}
pub use Rattle.build_effect.specs.inner.Makers.{Made, files_of, seen_files, Table, tables_of, entries_of, HasItsKey, maker_in, IsMadeTwice, IsFirstTwice, NoneMadeTwice, AreMade, numbered, makers_row}
pub use Rattle.build_effect.specs.inner.ReadLines.{PassesLine, RefusesLine, fault_of_cutter}
pub use Rattle.build_effect.specs.inner.StatementEdges.{IsBoundTo, IsBoundOutput, IsUnboundOutput, AreEdgesOf, IsFirstUnbound, statement_on, AreInverse, IsFirstRepeated, HaveStatements, IsFirstUnmentioned}
pub use Rattle.build_effect.specs.inner.Strings.{text_of, texts_of, IsWithin, AreWithin, AreEnds, edge_texts_of}
pub use Rattle.build_effect.specs.inner.Unions.{AreNames, AreJoined, NamesListed, ListedHaveStatements, HasEffectWithin}
pub use Rattle.build_effect.specs.declared.fault.EffectFault.{EffectFault}
pub use Rattle.build_effect.specs.declared.fault.EffectFault.TheVariants.{AddedTwice, BadPath, NotBound, NotMentioned, StatementTwice}
pub use Rattle.build_effect.specs.declared.fault.GraphFault.{GraphFault}
pub use Rattle.build_effect.specs.declared.fault.GraphFault.TheVariants.{ProducedTwice}
pub use Rattle.build_effect.specs.declared.fault.LineCause.{LineCause}
pub use Rattle.build_effect.specs.declared.fault.LineCause.TheVariants.{Form, Lexical, LineTooLong, Truncated}
pub use Rattle.build_effect.specs.declared.fault.LineFault.{LineFault}
pub use Rattle.build_effect.specs.declared.fault.ListFault.{ListFault}
pub use Rattle.build_effect.specs.declared.fault.ListFault.TheVariants.{AtLine, NoGraph}
pub use Rattle.build_effect.specs.declared.fault.ListingWriteFault.TheVariants.{ListingTooLong}
pub use Rattle.build_effect.specs.declared.listing.Binding.{Binding}
pub use Rattle.build_effect.specs.declared.listing.Binding.TheVariants.{Closed, Open}
pub use Rattle.build_effect.specs.declared.strings.Span.{Span}
