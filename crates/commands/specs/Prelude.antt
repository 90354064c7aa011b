-- The names that clauses and proofs of this crate cite, passed on from one place. Declares nothing.
pub use Rattle.std.specs.Prelude.{ℕ, List, [], All, length, map, flat_map, zip, Option, Err, IfOk, IfErr, OnOk, IsUtf8, string_bytes, codes, option_map}
pub use Rattle.std.specs.Cow.{cow_slice_items}
pub use Rattle.ninja_text.specs.Bytes.{Bytes, PathText, line_feed, Text}
pub use Rattle.ninja_text.specs.Failure.{ForFault, Gives}
pub use Rattle.dyndep_file.specs.Reader.{HasReadDyndep, IsReadFaultIn, DyndepReaderState, FeedsDyndep, EndsDyndepFile, IsReadFaultOf}
pub use Rattle.module_table.specs.TableValue.{table_with, TableValue}
pub use Rattle.build_effect.specs.ListingReaders.{HasReadListing, IsListingFaultIn, ListingReaderState, FeedsListing, EndsListing, IsListingFault, line_failure}
pub use Rattle.collate_core.specs.Collation.{Collates}
pub use Rattle.collate_core.specs.Refusals.{IsRefusal, WasRead}
pub use Rattle.collate_core.specs.Projects.{CollatesProject, IsProjectRefusal, WasReadAt, target_of}
pub use Rattle.command_line.specs.Tasks.{task_value, AreCallOf}
pub use Rattle.std.specs.declared.io.Error.{Error}
pub use Rattle.std.specs.IoError.{error_kind}
pub use Rattle.scan_docs.specs.Document.{IsRefused, large}
pub use Rattle.std.specs.Result.{is_ok}
pub use Rattle.ninja_text.specs.declared.failure.Failure.{Failure}
pub use Rattle.dyndep_file.specs.Reading.{StandsForOnly}
pub use Rattle.dyndep_file.specs.declared.fault.ReadFault.{ReadFault}
pub use Rattle.build_effect.specs.Graphs.{IsGraph, EdgeNeeds}
pub use Rattle.build_effect.specs.ListingReading.{Lists}
pub use Rattle.build_effect.specs.declared.fault.ListFault.{ListFault}
pub use Rattle.build_effect.specs.declared.fault.LineFault.{LineFault}
pub use Rattle.std.specs.declared.alloc.AllocError.{AllocError}
pub use Rattle.std.specs.List.{AllZip}
pub use Rattle.scan_docs.specs.Scan.{SettingValue, IsRule}
pub use Rattle.document_values.specs.Rule.{RuleValue}
pub use Rattle.scan_docs.specs.Values.{rules_of, info_of}
pub use Rattle.module_maps.specs.Maps.{Written}
pub use Rattle.collate_core.specs.Values.{TargetValue, CollatedValue, ProjectTargetValue}
pub use Rattle.collate_core.specs.Documents.{all_rules, table_of, IsScanAccepted}
pub use Rattle.document_values.specs.Info.{InfoValue}
pub use Rattle.collate_core.specs.declared.fault.Refusal.{Refusal}
pub use Rattle.collate_core.specs.declared.fault.RefusedTarget.{RefusedTarget}
pub use Rattle.std.specs.Option.{option_map_or, SomeIff}
pub use Rattle.dyndep_file.specs.StatementValue.{StatementValue}
pub use Rattle.build_effect.specs.EdgeValue.{EdgeValue}
pub use Rattle.build_effect.specs.DyndepFiles.{DyndepFileValue, HasOrderAfter}
pub use Rattle.build_effect.specs.Effect.{HasNoEffect, OnlyEffect}
pub use Rattle.build_effect.specs.Faults.{IsEffectFault}
pub use Rattle.build_effect.specs.declared.fault.EffectFault.{EffectFault}
pub use Rattle.collate_core.specs.Rehearsal.{IsWithoutEffect, HasEffect, LacksEffect}
pub use Rattle.build_effect.specs.ListingWriting.{listing_text_or_fault}
pub use Rattle.dep_order.specs.Sortings.{IsSortingOf}
pub use Rattle.dep_order.specs.Needs.{IsOrderable}
pub use Rattle.dep_order.specs.declared.Sorting.{Sorting}
pub use Rattle.ninja_text.specs.FaultTexts.{path_fault_text}
pub use Rattle.dyndep_file.specs.FaultTexts.{write_fault_text}
pub use Rattle.scan_docs.specs.declared.map_form.MapForm.{MapForm}
pub use Rattle.collate_core.specs.declared.projects.ProjectOut.{ProjectOut}
pub use Rattle.scan_docs.specs.FaultTexts.{doc_fault_text}
pub use Rattle.scan_docs.specs.declared.fault.DocFault.{DocFault}
pub use Rattle.scan_docs.specs.Project.{ProjectValue}
pub use Rattle.scan_docs.specs.ProjectChecks.{project_checks}
pub use Rattle.scan_docs.specs.Target.{TargetDocumentValue}
pub use Rattle.std.specs.Fmt.{decimal}
pub use Rattle.command_line.specs.declared.Task.{Task}
pub use Rattle.ninja_text.specs.Counting.{IsWritten, IsCutShort}
pub use Rattle.ninja_text.specs.declared.counting.Counted.{Counted}
pub use Rattle.ninja_text.specs.declared.counting.Stopped.{Stopped}
pub use Rattle.std.specs.Vec.Iter.{into_iter_items, into_iter_len}
pub use Rattle.scan_docs.specs.TargetChecks.{target_checks}
pub use Rattle.commands.specs.Folder.{FileCall, FileRead, reading, comparing, writing, answer_of, Adds, ReadsOn, HasFailed, StaysFailed, WasGiven, GivesPieces, up_to, whole, MakesCalls}
pub use Rattle.commands.specs.Outcomes.{UnlessKnown, read_before, Runs, Writes, ReadsDocument, ReadsAs, ReadsAll, IsUnread, Reports, printed, written, seen, goes_on, stops, failed, located, unlocated, document_most, ErrorValue, LineValue, Outcome, Part, InTurn, Done, Each, Returns, ReadsNext, ValueOf, refusal, FileValue, OutputValue, ◌>>=◌, ReadsIfNamed}
pub use Rattle.commands.specs.Locations.{nowhere, coded, K, in_document, if_in, in_target, at_place, doc_location, path_location, lex_location, line_location, read_location, write_location, table_location, refusal_location, line_cause_location, edges_location, effect_location, listing_location}
pub use Rattle.commands.specs.Answers.{visible, file_value, IsAnswered, line}
pub use Rattle.commands.specs.Printing.{IsPrinted, IsUnprinted, status_of, out_of, err_of, IsPut}
pub use Rattle.commands.specs.Dyndeps.{IsDyndepRead, DyndepOf, DyndepRead, read_error}
pub use Rattle.commands.specs.Listings.{IsListingRead, ListingOf, ListingRead, ReadsListing}
pub use Rattle.commands.specs.Show.{ShowOfRead, ShowRun, write_error}
pub use Rattle.commands.specs.Effect.{NameOf, EffectOf, ListingTextOf, EffectOfRead, EffectRun}
pub use Rattle.commands.specs.Order.{OrderOfRead, OrderRun, order_text, PrintsOrder}
pub use Rattle.commands.specs.EdgeChecks.{EdgesPass, GraphPasses}
pub use Rattle.commands.specs.EdgeFaults.{first_output, edges_fault_text, edges_error, effect_text, effect_error, cycle_text, cycle_error, listing_write_text, listing_write_error, name_error}
pub use Rattle.commands.specs.TableFaults.{object_path, target_name, maker_text, made_twice_text, ring_text, fault_subject, fault_text}
pub use Rattle.commands.specs.Files.{FilesOf, WritesFile, WritesFiles, TargetFilesValue, writes}
pub use Rattle.commands.specs.Targets.{TargetOf}
pub use Rattle.commands.specs.CollateCommand.{SpecOf, style_of, target_with, map_files, files_of, CollateRun, map_name, output_file, spec_error, HasSpec}
pub use Rattle.commands.specs.One.{OneRun, PrintsDyndep, one_setting, one_target}
pub use Rattle.commands.specs.ProjectCommand.{target_text, target_error, IsTargetOutcome, FormOf, LinksOf, TargetAfter, ReadsTargets, project_target, form_of, ProjectOf, AllEdgesPass, all_files, ProjectRun, ReadTargetValue, index_or_head, last_with, LinksTo, At, IsTargetStop, names_at, RejectedAt, IsRejectedAt, rejected_error, linked_later, LinksLater, HasFormOf, HasProject, ProjectDocumentOf, project_error, ReadsTarget, list_named, list_with, ListAfter}
pub use Rattle.commands.specs.Runs.{TaskRun}
pub use Rattle.commands.specs.Program.{words_of, ArgumentsRun, IsProgramRun, AreTask, ArgumentsOf, Words}
pub use Rattle.commands.specs.inner.FirstIndexes.{Keeps, Taken, slot_of, at_slot, own_index, in_map, index_by, index_of, AreTaken}
pub use Rattle.commands.specs.inner.Parts.{bytes_of, listed_texts}
pub use Rattle.collate_core.specs.Listed.{lent_texts, listed_as, texts_listed, bytes_of_each, bytes_listed, first_bytes}
pub use Rattle.collate_core.specs.declared.reading.Listed.{Listed}
pub use Rattle.collate_core.specs.declared.reading.Listed.TheVariants.{First, Again}
pub use Rattle.commands.specs.inner.Refusals.{refusal_line, refused_line, refused_error}
pub use Rattle.commands.specs.inner.Stops.{IsStoppedWith, IsFailedCall, OrStops, ReportsPrinted}
pub use Rattle.commands.specs.inner.ProjectTargets.{LinkEarlier, IsReportable, ReportsAt, writer_of, list_value, list_of, HasKnownList, ListsAgree, Passes, PassesAt, ArePassed, IsFileOf}
pub use Rattle.commands.specs.RefusalTexts.{map_text, refusal_by_names, error_by_names, refusal_error}
