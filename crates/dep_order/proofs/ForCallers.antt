-- What other crates cite: the lemmas that the promises of this crate rest on, for needs of their own.

-- A sorting, an order, a least cycle or a reach by some needs is one by any needs that hold of the same things.
pub use Rattle.dep_order.proofs.Orders.{Implies, sorting_same, orderable_same, order_same, least_cycle_same, cycle_same, chain_same, reaches_same}
-- Numbers that put needed things lower or level, and inner numbers for those that are level, make needs orderable.
pub use Rattle.dep_order.proofs.Orders.{layered}
-- What is orderable has no cycle, and a digraph is orderable or has one.
pub use Rattle.dep_order.proofs.Orders.{no_cycle}
pub use Rattle.dep_order.proofs.Least.{orderable_or_cycle}
-- The least cycle has no more things than there are. If there is no least cycle, there is no cycle.
pub use Rattle.dep_order.proofs.Least.{least_is_short, no_cycle_without_least}
-- If an order by smallest numbers exists, and the needs are among the things, as in a digraph, then they are orderable.
pub use Rattle.dep_order.proofs.Orders.{AreWithin, orderable}
pub use Rattle.dep_order.proofs.Answered.{within}
-- At most one list is the order by smallest numbers, and at most one is the least cycle.
pub use Rattle.dep_order.proofs.Orders.{one_order, one_cycle}
-- Different numbers test as different.
pub use Rattle.dep_order.proofs.Orders.{other_number}
