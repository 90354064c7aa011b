-- What other crates cite: the laws over any relation, which no contract can state, and what the
-- clauses of a pool mean.

-- At most one list has exactly the pairs of which something holds, in byte order of names.
pub use Rattle.module_table.proofs.Pairs.{one_list_of_pairs}
-- An info file of a pool that is known is at its index.
pub use Rattle.module_table.proofs.PoolLemmas.{known_there}
