-- The names that the clauses and proofs of this crate cite, passed on from one place. Declares nothing.
pub use Rattle.std.specs.Prelude.{[], ℕ, length, map, slice_get, take, All, IfErr, IfOk, IfSome, IsTrue, List, MatchOption, None, Ok, OnOk, Option, Some}
pub use Rattle.std.specs.Option.{option_copied, option_map, option_map_or, option_to_list}
pub use Rattle.std.specs.List.{cons_option, flat_map, list_any, AllByRecursion}
pub use Rattle.std.specs.declared.alloc.Global.{Global}
pub use Rattle.std.specs.Vec.Iter.{into_iter_items}
pub use Rattle.std.specs.declared.alloc.AllocError.{AllocError}
pub use Rattle.ninja_text.specs.Failure.{ForFault, Turns}
pub use Rattle.module_table.specs.Sound.{IsSound, PrivateAreProvided}
pub use Rattle.indexmap.specs.IndexSet.{hasher_of, insert_key}
pub use Rattle.table_keys.specs.Keys.{Covers, HasAdded, IsKeyOf}
pub use Rattle.ninja_text.specs.Bytes.{Name, PathText, Text}
pub use Rattle.scan_docs.specs.InfoText.{info_text, IsInfoText, IsModuleText, ReadsBack}
pub use Rattle.document_values.specs.Rule.{RuleValue}
pub use Rattle.module_maps.specs.Maps.{map_fault, AreEntriesOf, AreStyleLaws, Written}
pub use Rattle.module_maps.specs.declared.fault.MapFault.TheVariants.{BadMapLine}
pub use Rattle.module_table.specs.TableValue.{table_with, TableValue}
pub use Rattle.dep_order.specs.Sortings.{IsSortingOf}
pub use Rattle.dyndep_file.specs.Reader.{HasReadDyndep, IsReadFailureIn, IsReadFaultOf}
pub use Rattle.dyndep_file.specs.Reading.{HasReadFault, StandsFor, StandsForOnly}
pub use Rattle.build_effect.specs.EdgeValue.{EdgeValue}
pub use Rattle.build_effect.specs.Graphs.{inputs_of, made_by, EdgeNeeds, HasInput, Makes, Names}
pub use Rattle.dyndep_file.specs.StatementValue.{StatementValue}
pub use Rattle.dyndep_file.specs.WriteFaults.{paths_of, statement_fault, text_or_fault, text_unless, write_fault}
pub use Rattle.dyndep_file.specs.Texts.{IsFinished, IsTextOf}
pub use Rattle.scan_docs.specs.Scan.{AreRules, IsRuleText, IsText, SettingValue}
pub use Rattle.dep_order.specs.Orders.{IsLeastOrder}
pub use Rattle.module_table.specs.Added.{required_of, tasks_of, AddedNeeds, AddedOrderable, AllRequired, FilesApart, FilesOnce, OneFile, RequiredFiles, Task}
pub use Rattle.dep_order.specs.Numbers.{Numbers}
pub use Rattle.dep_order.specs.Needs.{IsOrderable, NeedsAreNodes, NodeNeeds}
pub use Rattle.dep_order.specs.Cycles.{IsCycle}
pub use Rattle.ninja_text.specs.declared.failure.Failure.{Failure}
pub use Rattle.ninja_text.specs.declared.failure.Failure.TheVariants.{Fault, Memory}
pub use Rattle.scan_docs.specs.Document.{HasOneAnswer, IsAccepted, IsRefused}
pub use Rattle.scan_docs.specs.ScanChecks.{scan_checks}
pub use Rattle.document_values.specs.Info.{InfoValue, ModuleValue}
pub use Rattle.scan_docs.specs.InfoChecks.{info_checks}
pub use Rattle.scan_docs.specs.Values.{info_of, rules_of}
pub use Rattle.scan_docs.specs.declared.fault.DocFault.{DocFault}
pub use Rattle.scan_docs.specs.declared.fault.DocFault.TheVariants.{TooLarge}
pub use Rattle.scan_docs.specs.declared.fault.Place.TheVariants.{Document}
pub use Rattle.ninja_text.specs.Paths.{path_of, IsPath}
pub use Rattle.document_values.specs.Name.{IsName, IsTargetName}
pub use Rattle.scan_docs.specs.Sound.{IsSoundInfo, IsSoundModule, IsSoundPair}
pub use Rattle.module_table.specs.Modules.{DependsOn, InfoProvides, IsProvided, IsProvidedBy, Provides, Requires}
pub use Rattle.module_table.specs.declared.fault.Maker.{Maker}
pub use Rattle.module_table.specs.declared.fault.Maker.TheVariants.{Info, Object}
pub use Rattle.build_effect.specs.Effect.{extended, AreCanonical, Effect, Extends, IsCanonical, OnlyEffect}
pub use Rattle.build_effect.specs.Premises.{AddedOnce, AdditionNeeds, AddsAt, MeetsPremises, OneEffect}
pub use Rattle.build_effect.specs.Files.{AnyOrder, Applies, AreFileIndices, AreFiles, FilesMeet, GainsExactly, NamedFile, OrdersEndAlike}
pub use Rattle.build_effect.specs.Numbering.{rank_at, AreOrdered, FilesOrder, HasOutputsOnly, IsAboveOthers, IsRisingNumbering}
pub use Rattle.scan_docs.specs.Info.{IsInfo}
pub use Rattle.module_table.specs.Parts.{HasModule, IsEnough, IsPartOf, KeepsRequired}
pub use Rattle.module_table.specs.Pool.{pool_entries, AreLinked, IsAdded, PoolValue}
pub use Rattle.module_maps.specs.Values.{ModuleMapValue}
pub use Rattle.module_maps.specs.declared.fault.MapFault.{MapFault}
pub use Rattle.module_maps.specs.declared.module_map.MapEntry.{MapEntry}
pub use Rattle.module_table.specs.Needed.{lent, ArePairs, IsNeeded, Leads, LeadsTo}
pub use Rattle.module_maps.specs.declared.fault.UnwritableMap.{UnwritableMap}
pub use Rattle.module_maps.specs.declared.fault.UnwritableMap.TheVariants.{MapPath, TwoProvided}
pub use Rattle.module_table.specs.Outcomes.{OneTableFault, SoundHasNoFault}
pub use Rattle.dyndep_file.specs.Laws.{FaultStays, FirstFault, NotBoth, OneList}
pub use Rattle.dyndep_file.specs.declared.fault.ReadFault.{ReadFault}
pub use Rattle.dyndep_file.specs.declared.fault.ReadFault.TheVariants.{AtLine, Io}
pub use Rattle.dyndep_file.specs.declared.fault.WriteFault.{WriteFault}
pub use Rattle.module_table.specs.Faults.{IsFault, IsReported}
pub use Rattle.module_table.specs.declared.fault.TableFault.{TableFault}
pub use Rattle.module_table.specs.EnoughParts.{PartHasTasks, PartIsNeeded, PartIsSound}
pub use Rattle.table_keys.specs.Entries.{TableEntries}
pub use Rattle.table_keys.specs.declared.TableKey.{TableKey}
pub use Rattle.module_table.specs.Entries.{info_entries, object_entries, table_entries}
pub use Rattle.module_table.specs.declared.fault.RefusedTable.{RefusedTable}
pub use Rattle.module_table.specs.declared.pool.requirements.Requirements.TheVariants.{Kept}
pub use Rattle.dep_order.specs.declared.Sorting.{Sorting}
pub use Rattle.dep_order.specs.declared.Sorting.TheVariants.{Cycle, Order}
pub use Rattle.module_table.specs.Beginnings.{IsBeginning, IsBeginningOf}
pub use Rattle.module_table.specs.Faults.{code_number}
pub use Rattle.collate_core.specs.Listed.{first_bytes, lent_texts, listed_as, bytes_listed, bytes_of_each, texts_listed}
pub use Rattle.collate_core.specs.declared.reading.Listed.{Listed}
pub use Rattle.collate_core.specs.declared.reading.Listed.TheVariants.{First, Again}
pub use Rattle.collate_core.specs.Values.{collated_of, CollatedValue, ProjectTargetValue, TargetValue}
pub use Rattle.collate_core.specs.Headline.{with_modules, AddsExactly, HasStatements, IsCollatedText, IsDyndepOf, IsHeadline, Modules}
pub use Rattle.collate_core.specs.Documents.{all_rules, rule_limit, table_of, AreAccepted, AreScansAccepted, IsInfoAccepted, IsResolved, IsScanAccepted}
pub use Rattle.collate_core.specs.Collation.{AreMaps, Collates, HasPaths, IsMapText}
pub use Rattle.collate_core.specs.Refusals.{HasReadOf, IsInfoRefusal, IsMapFault, IsMapRefusal, IsMapWritten, IsRefusal, IsScanFault, IsScanRefusal, WasRead}
pub use Rattle.collate_core.specs.inner.Parts.{lent_files, CollatesLinked, ForEffect, ForInfo, ForScan, HasSpelled, IsLineRefusal, IsMapsRefusal, IsObjectRefusal, IsOfTable, IsSpelled, IsTableText, IsTextsRefusal, IsTooLarge, IsWriteRefusal, IsWrittenOf}
pub use Rattle.collate_core.specs.Infos.{info_of_table, is_private_name, module_of, modules_of}
pub use Rattle.collate_core.specs.inner.ReadInfos.{AreInfosRead, AreKnown, AreLinkedInfos, AreReadAs, CollatesAndReads, IsReadAs}
pub use Rattle.collate_core.specs.Projects.{linked_infos, project_tables, target_of, CollatesProject, IsLinkedRefusal, IsProjectRefusal, WasReadAt}
pub use Rattle.collate_core.specs.inner.PartTables.{IsEnoughFor}
pub use Rattle.collate_core.specs.inner.ReadTargets.{project_entries, target_entries, AreHeld, AreInfosHeld, AreRulesOf, AreRulesOfEach, CoversLinked}
pub use Rattle.collate_core.specs.Maps.{IsMapOf}
pub use Rattle.collate_core.specs.Outcomes.{IsProjectOutcome}
pub use Rattle.collate_core.specs.Rehearsal.{HasEffect, IsOrder, IsOrderedAt, IsRehearseFault, IsWithoutEffect, LacksEffect}
pub use Rattle.collate_core.specs.Statements.{module_files, statement_of, statements_of}
pub use Rattle.collate_core.specs.Builds.{listed, rebuild_graph, required, without_order_only, ComesAfter, HasNoFalseCycle, HasNoFalseRebuild, HasNoFalseWait, HasNoRace, HasReason, HasSameChains, IsEdgeOf, IsMaker, IsReader, IsRunOrder, ProvidesFile, RequiresFile}
pub use Rattle.collate_core.specs.ProjectOrders.{dyndep_file, dyndep_files, AllOrders, IsProjectOrdered, ProjectProvides, Sees}
pub use Rattle.collate_core.specs.BuildLaws.{tables_of, HasLinked, IsAfterProject, IsAfterTarget}
pub use Rattle.collate_core.specs.ProjectNeeds.{direct, onward, AddedApart, IsProjectNeeded, MapsReadBack}
pub use Rattle.collate_core.specs.Laws.{same_fault, same_refusal, CollatedIsNotRefused, IsSameRefusal, OneProjectRefusal, OneRefusal, ProjectMaps}
pub use Rattle.collate_core.specs.declared.fault.Refusal.TheVariants.{LinkedLater, Map, Scan, StatementTooLong, Table}
pub use Rattle.collate_core.specs.declared.fault.Refusal.{Refusal}
pub use Rattle.collate_core.specs.declared.fault.RefusedTarget.{RefusedTarget}
pub use Rattle.collate_core.specs.declared.fault.RehearseFault.{RehearseFault}
pub use Rattle.collate_core.specs.declared.fault.RehearseFault.TheVariants.{Read}
