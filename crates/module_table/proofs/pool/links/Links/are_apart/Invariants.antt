use Rattle.std.proofs.Common.{List, ℕ}
use Rattle.module_table.specs.Prelude.{Below, by_name, by_file, rows_of, IsApart, IsUnlinked}
use Rattle.module_table.proofs.pool.links.Links.are_apart.Given as goal

abbrev pub invariant-loop-rule : goal.invariant-loop-rule
invariant-loop-rule l = Below (IsApart l.self.linked.now l.listed) l.objects l.rule-index

abbrev pub invariant-loop-pair : goal.invariant-loop-pair
invariant-loop-pair l = Below (λ (pair : List ℕ × List ℕ). IsUnlinked l.self.linked.now
    (rows_of l.listed by_name) pair.0 × IsUnlinked l.self.linked.now (rows_of l.listed by_file) pair.1) l.pair-items l.pair-index
