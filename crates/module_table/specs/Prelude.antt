-- The names that most clauses and proofs of this crate cite, passed on from one place. Declares
-- nothing.
pub use Rattle.std.specs.Borrow.{Bor}
pub use Rattle.std.specs.Cmp.Lexicographic.{bytes_decides}
pub use Rattle.std.specs.List.{AllPairs, AllZip, cons_option, enumerate_from, filter_map, flat_map, list_any}
pub use Rattle.std.specs.List.Sorted.{IsPermutation, IsSorted}
pub use Rattle.std.specs.Option.{ForSome, option_map}
pub use Rattle.std.specs.Ordering.{nat_cmp}
pub use Rattle.std.specs.Prelude.{[], All, false, get_or, IfErr, IfNone, IfOk, IfSome, IsTrue, length, List, map, None, OnOk, slice_get, Some, true, ℕ}
pub use Rattle.std.specs.declared.alloc.AllocError.{AllocError}
pub use Rattle.std.specs.declared.alloc.Global.{Global}
pub use Rattle.dep_order.specs.Needs.{AreReached, IsOrderable, NeedsAreNodes, NodeNeeds}
pub use Rattle.dep_order.specs.Rows.{rows}
pub use Rattle.dep_order.specs.Sortings.{IsSortingOf}
pub use Rattle.document_values.specs.Info.{InfoValue, ModuleValue}
pub use Rattle.document_values.specs.Rule.{RuleValue}
pub use Rattle.indexmap.specs.IndexMap.{get, hasher_of}
pub use Rattle.indexmap.specs.IndexSet.{IsEmpty}
pub use Rattle.ninja_text.specs.Bytes.{Name, PathText, Precedes}
pub use Rattle.ninja_text.specs.Failure.{ForFault}
pub use Rattle.ninja_text.specs.Firsts.{AllDiffer, IsFirst, IsFirstRepetition, RepeatsFirst}
pub use Rattle.ninja_text.specs.declared.failure.Failure.{Failure}
pub use Rattle.table_keys.specs.Entries.{TableEntries}
pub use Rattle.table_keys.specs.Keys.{Covers, HasAdded, IsKeyOf}
pub use Rattle.module_table.specs.Added.{file_of, first_mentions, pair_of, required_of}
pub use Rattle.module_table.specs.Building.{Builds}
pub use Rattle.module_table.specs.Entries.{CoversTable, info_entries, object_entries, table_entries}
pub use Rattle.module_table.specs.FaultNames.{fault_name}
pub use Rattle.module_table.specs.Faults.{Claim, claims, claims_of, code_number, Collides, Disagrees, HasPrivate, IsFirstRequired, IsInfoUnknown, IsPrivateElsewhere, IsPrivateName, IsReported, IsUnknown, IsUnprovided, own_claims, Requiring}
pub use Rattle.module_table.specs.Modules.{DependsOn, info_provisions, info_requirements, InfoProvides, InfoRequirement, InfoRequires, IsInfoProvided, IsProvided, IsProvidedBy, module_requirements, object_provisions, Provides, Provision, provisions, requirements_of_info, Requires}
pub use Rattle.module_table.specs.Needed.{ArePairs, IsNeeded, Leads, LeadsTo, lent}
pub use Rattle.module_table.specs.Outcomes.{HasNoFault}
pub use Rattle.module_table.specs.Parts.{HasModule, IsAlike, IsEnough, IsPartOf, KeepsRequired}
pub use Rattle.module_table.specs.Pool.{AreLinked, IsAdded, pool_entries, PoolValue}
pub use Rattle.module_table.specs.Scratch.{IsUnused}
pub use Rattle.module_table.specs.Sound.{IsSound, PrivateAreProvided}
pub use Rattle.module_table.specs.TableValue.{table_with, TableValue}
pub use Rattle.module_table.specs.declared.fault.Maker.{Maker}
pub use Rattle.module_table.specs.declared.fault.Maker.TheVariants.{Info, Object}
pub use Rattle.module_table.specs.declared.fault.TableFault.{TableFault}
pub use Rattle.module_table.specs.declared.fault.TableFault.TheVariants.{BmiTwice, ImportCycle, InfoDisagrees, InfoTwice, InfoUnknown, ModulePrivate, ModuleUnknown, ObjectTwice, PrivateUnknown, ProvidedTwice}
pub use Rattle.module_table.specs.declared.modules.InfoRequired.{InfoRequired}
pub use Rattle.module_table.specs.declared.modules.Module.{Module}
pub use Rattle.module_table.specs.declared.needed.Numbered.{Numbered}
pub use Rattle.module_table.specs.declared.pool.requirements.Requirements.TheVariants.{Kept}
pub use Rattle.module_table.specs.declared.pool.rows.Middle.{Middle}
pub use Rattle.module_table.specs.declared.pool.rows.ModuleAt.{ModuleAt}
pub use Rattle.module_table.specs.declared.pool.rows.Related.{Related}
pub use Rattle.module_table.specs.declared.pool.rows.Row.{Row}
pub use Rattle.module_table.specs.declared.pool.sets.Word.{Word}
pub use Rattle.module_table.specs.inner.Finds.{AcceptsAll, Agrees, AreByObjects, AreInfosAllowed, AreInfosKnown, AreObjectsAllowed, DoInfosAgree, found, is_info_at, IsAllowed, IsByInfo, IsByObject, IsNamed, IsNotByInfo, IsNotByObject, IsPublic, LookedUp, RequiresPublic}
pub use Rattle.module_table.specs.inner.Found.{AreLookedUp, looked_up, lookups_of}
pub use Rattle.module_table.specs.inner.Graph.{AreModuleRows, HasEachOnce, index_in, indexes_in, info_rows, IsModuleGraph, IsModuleRow, object_row}
pub use Rattle.module_table.specs.inner.Indexed.{IsNamedAt, pair_at}
pub use Rattle.module_table.specs.inner.LookUps.{AreRequired, AreStored, IsIndex}
pub use Rattle.module_table.specs.inner.Mentioned.{ArePairsSoFar, mentioned_names, name_in}
pub use Rattle.module_table.specs.inner.Numbered.{AreRequiredIndexes, IsNumbered, maker_at}
pub use Rattle.module_table.specs.inner.Origins.{AreNamed, AreProvided, info_origins, object_origins, Origin, origin_of, origins_of}
pub use Rattle.module_table.specs.inner.Passed.{Passed}
pub use Rattle.module_table.specs.inner.Pools.{AreFit, AreIndexes, AreListed, AreShared, AreWords, Below, By, by_file, by_name, Has, HasBit, InMiddle, InRow, InWord, InWords, IsApart, IsClosedAt, IsCopied, IsFitAt, IsFoundIn, IsKeyed, IsKnownModule, IsPickedOf, IsPool, IsProvidedFor, IsPut, IsRelated, IsListedAt, IsRowUnlinked, IsSource, IsSparse, IsUnlinked, key_of, module_at, rows_of, StillInRow, StillKeyed, StillListed}
pub use Rattle.module_table.specs.inner.Ranks.{AreByName, AreByNumber, AreNeeds, AreNumbers, AreRanked, AreRanks, pair_in, pairs_of}
pub use Rattle.module_table.specs.inner.Reported.{FailsWith, Reports}
pub use Rattle.module_table.specs.inner.Views.{DoNamesDiffer, files_of, IsAbsent, IsMadeTwice, IsOfInfo, IsPrivateFault, names_of, paths_of, provision_of, requirement_of}
