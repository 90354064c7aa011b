-- The names that the clauses and proofs of this crate cite, passed on from one place. Declares nothing.
pub use Rattle.std.specs.Prelude.{ℕ, length, sum, All, IfOk, IsTrue, List, OnOk, Option, Some}
pub use Rattle.std.specs.List.{cons_option, count_by, filter, filter_map, fold, list_any, position_or_len, range_with_len, reduce, slice_range, sum_by, AllByRecursion, AllPairs, Contains}
pub use Rattle.std.specs.Option.{is_none, is_some, option_eq, MatchOption}
pub use Rattle.std.specs.Ordering.{is_eq, nat_cmp, ordering_reverse, ordering_then}
pub use Rattle.std.specs.declared.cmp.Ordering.TheVariants.{Equal, Greater, Less}
pub use Rattle.std.specs.Cmp.Lexicographic.{slice_cmp}
pub use Rattle.std.specs.BTreeMap.Range.{IsLtBy}
pub use Rattle.std.specs.BTreeSet.{contains, BTreeSet, Updates}
pub use Rattle.std.specs.declared.alloc.Global.{Global}
pub use Rattle.std.specs.List.Sorted.{IsPermutation, IsSorted}
pub use Rattle.std.specs.Borrow.{Bor}
pub use Rattle.dep_order.specs.Numbers.{Numbers}
pub use Rattle.dep_order.specs.Rows.{lists, rows}
pub use Rattle.dep_order.specs.Needs.{needs_of, AreReached, IsChain, IsNumbering, IsOrderable, IsReach, NeedsAreNodes, NodeNeeds, Reaches}
pub use Rattle.dep_order.specs.Orders.{EachSmallest, IsLeastOrder, IsReady, IsSmallestReady}
pub use Rattle.dep_order.specs.Cycles.{first_of, IsCycle, IsLeastCycle}
pub use Rattle.dep_order.specs.Sortings.{IsSortingOf}
pub use Rattle.dep_order.specs.inner.Users.{count_of, one_if, AreUsers, IsUserAdded}
pub use Rattle.dep_order.specs.inner.Spans.{end_of, parts, size_of, start_of, AreCounted, AreEmptySpans, AreExtended, AreSpans, AreUserCounts, HaveRoom}
pub use Rattle.dep_order.specs.inner.Ordering.{AreOrdered, AreReleased}
pub use Rattle.dep_order.specs.inner.Marks.{mark_of, unmarked, AreMarked}
pub use Rattle.dep_order.specs.inner.Steps.{AreAdvanced, AreSteps, IsFewest, IsLeastAt, LeadsBack, SomeIsAway}
pub use Rattle.dep_order.specs.inner.CyclesFrom.{HasCycle, IsLeastFrom, IsLeastFromIfAny, NoneFrom}
pub use Rattle.dep_order.specs.inner.Postorders.{is_seen, AreSeen, IsBeforeOrLeads, IsFirstUnseen, IsInDepth, IsOnPathAndLeads, IsPostorder, IsWalk, SeesMore}
pub use Rattle.dep_order.specs.inner.Components.{AreComponents, AreNumbersFrom, IsNumberAdded, LeadsFree, SharesComponent}
pub use Rattle.dep_order.specs.inner.Found.{AreFound, IsRowFound}
pub use Rattle.dep_order.specs.declared.Sorting.{Sorting}
pub use Rattle.dep_order.specs.declared.Sorting.TheVariants.{Cycle, Order}
pub use Rattle.dep_order.specs.declared.ordering.Span.{Span}
