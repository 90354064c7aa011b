-- The names that clauses and proofs cite, passed on from one place. Declares nothing.
pub use Rattle.std.specs.Prelude.{Bool, true, List, length, map, Option, Some, None, Result, Ok, Err, IfOk, IfErr, OnOk, IsUtf8, is_some, option_map, option_copied, string_bytes}
pub use Rattle.std.specs.List.{All, AllZip, AllByRecursion, flat_map, list_all}
pub use Rattle.std.specs.Option.{ForSome, option_or}
pub use Rattle.ninja_text.specs.Bytes.{Bytes, Text, PathText}
pub use Rattle.ninja_text.specs.Failure.{ForFault, Gives}
pub use Rattle.ninja_text.specs.Paths.{path_of, placed, is_rooted}
pub use Rattle.ninja_text.specs.declared.failure.Failure.{Failure}
pub use Rattle.ninja_text.specs.declared.failure.Failure.TheVariants.{Memory, Fault}
pub use Rattle.ninja_text.specs.declared.fault.PathFault.{PathFault}
pub use Rattle.serde.specs.Event.{Log, Logs, seq_begins, seq_ends, map_ends}
pub use Rattle.serde_json.specs.Data.{Data, Items, item, unsigned, string, array, null}
pub use Rattle.serde_json.specs.Events.{SendsValue, SendsItems, items_len}
pub use Rattle.serde_json.specs.Find.{as_str}
pub use Rattle.serde_json.specs.Read.{read, number_of, of_json, of_items}
pub use Rattle.serde_json.specs.Sent.{with, text_token, number_token, IsTextOf}
pub use Rattle.serde_json.specs.View.{view, items_of}
pub use Rattle.serde_json.specs.Written.{IsInOrder, compact_text, items_text, outline, items_outline, comma_if, has_float, items_have_float}
pub use Rattle.serde_json.specs.declared.value.Value.{Value}
pub use Rattle.document_values.specs.Info.{ModuleValue, InfoValue}
pub use Rattle.document_values.specs.Name.{is_name, is_target_name, IsName}
pub use Rattle.document_values.specs.Rule.{RuleValue}
pub use Rattle.scan_docs.specs.declared.fault.DocFault.{DocFault}
pub use Rattle.scan_docs.specs.declared.fault.Place.{Place}
pub use Rattle.scan_docs.specs.Member.{key}
pub use Rattle.scan_docs.specs.Place.{place_text}
pub use Rattle.scan_docs.specs.FaultTexts.{doc_fault_text}
pub use Rattle.scan_docs.specs.Shape.{elements, all_texts, is_object, given, text, flag, entries, texts, whole_number, fits, text_of, entries_of, texts_of}
pub use Rattle.scan_docs.specs.Check.{Check, ◌otherwise◌, first_refusal, shape_check, path_checks, version_checks, each_from}
pub use Rattle.scan_docs.specs.Document.{document_limit, IsTree, IsAccepted, IsRefused, HasOneAnswer, large, no_tree, false_check}
pub use Rattle.scan_docs.specs.Scan.{SettingValue, object_of, module_file_of, dashed, made_file, IsText, IsProvidedModule, IsRequired, IsRule, AreRules, IsRuleText}
pub use Rattle.scan_docs.specs.ScanChecks.{provided_checks, all_provided_checks, required_checks, all_required_checks, rule_checks, scan_checks}
pub use Rattle.scan_docs.specs.Target.{TargetDocumentValue, build_dir, map_form, restat, IsTarget}
pub use Rattle.scan_docs.specs.TargetChecks.{name_checks, directory_checks, list_checks, kept_checks, dyndep_checks, info_check, map_check, file_checks, target_checks}
pub use Rattle.scan_docs.specs.Project.{ProjectValue, IsProject}
pub use Rattle.scan_docs.specs.ProjectChecks.{project_checks}
pub use Rattle.scan_docs.specs.Info.{visibility_meaning, has_visibility, privacy, IsRequirement, IsModule, IsInfo}
pub use Rattle.scan_docs.specs.InfoChecks.{entry_shape_checks, visibility_check, named_file_checks, requirement_checks, module_checks, all_module_checks, info_checks}
pub use Rattle.scan_docs.specs.InfoText.{requirement_tree, requirements_tree, module_tree, info_tree, info_text, IsModuleText, IsInfoText, ReadsBack}
pub use Rattle.scan_docs.specs.Sound.{IsSoundPair, IsSoundModule, IsSoundInfo}
pub use Rattle.scan_docs.specs.Values.{rules_of, info_of, spec_of, project_of}
pub use Rattle.scan_docs.specs.inner.Reading.{first_failure, Answers, Tests, AnswersPath, IsNoTree}
pub use Rattle.scan_docs.specs.inner.Writing.{SendsText, BeginsNamedFile}
