-- The names that clauses and proofs cite, passed on from one place. Declares nothing.
pub use Rattle.std.specs.Prelude.{[], ℕ, List, length, map, Option, Some, None, Result, Ok, Err, IsOk, IfOk, OnOk, OnErr, IsSome, IfSome, IsTrue, MatchOption, IsUtf8, option_map, option_copied, position, slice_get, bytes_eq}
pub use Rattle.std.specs.List.{All, AllByRecursion, flat_map, list_all, join_with_byte}
pub use Rattle.std.specs.Borrow.{Bor}
pub use Rattle.std.specs.Cmp.Lexicographic.{slice_cmp}
pub use Rattle.std.specs.Ordering.{nat_cmp, is_lt}
pub use Rattle.std.specs.Option.{SomeIff}
pub use Rattle.ninja_text.specs.Bytes.{Text, Precedes}
pub use Rattle.ninja_text.specs.Failure.{Gives}
pub use Rattle.ninja_text.specs.Paths.{IsPath, path_of, is_empty}
pub use Rattle.document_values.specs.Name.{is_name}
pub use Rattle.module_maps.specs.declared.fault.MapFault.{MapFault}
pub use Rattle.module_maps.specs.declared.module_map.MapEntry.{MapEntry}
pub use Rattle.module_maps.specs.Values.{ModuleMapValue}
pub use Rattle.module_maps.specs.Maps.{lent_pairs, lent_map, pairs_of, IsModulePair, IsModuleMap, IsRising, IsWrittenText, FaultsAreOfMaps, ReadsWritten, KeepsPairs}
pub use Rattle.module_maps.specs.MapLines.{LineForm, is_map_byte, is_fit, first_unfit, lines_of, canonical_in, name_in, path_in, cut, both, pair_in, behind, named, nameless, ended_line, read_lines, AppendsFirst}
pub use Rattle.module_maps.specs.MarkedMaps.{marked_line, marked_result, marked_written, marked_kept, marked_form, marked_entries}
pub use Rattle.module_maps.specs.GccMaps.{gcc_written, gcc_kept, gcc_entries}
pub use Rattle.module_maps.specs.ClangMaps.{module_flag, output_flag, file_flag, file_line, output_text, clang_text, clang_result, clang_written, clang_kept, rises_behind, file_pair, file_entry, output_path, clang_form, read_behind, read_provided, clang_read, clang_entries}
pub use Rattle.module_maps.specs.map_laws.LineLemmas.{Pairs, AreModules, AreFit, lines_text, read_on, parts_at, pair-of, name-text, name-other, lines-cut, lines-whole, line-read, line-bad}
pub use Rattle.module_maps.specs.map_laws.ClangLemmas.{RisesBehind, last-entry, map_with, one-text, read_behind_first, is-provided, provided-line}
