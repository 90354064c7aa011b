-- What `order` returns, for any needs.
use Rattle.std.specs.Prelude.{ℕ}
use Rattle.dep_order.specs.declared.Sorting.{Sorting}
use Rattle.dep_order.specs.declared.Sorting.TheVariants.{Order, Cycle}
use Rattle.dep_order.specs.Needs.{IsOrderable}
use Rattle.dep_order.specs.Orders.{IsLeastOrder}
use Rattle.dep_order.specs.Cycles.{IsLeastCycle}

-- the order by smallest numbers if the needs are orderable, otherwise the least cycle
abbrev pub IsSortingOf : ℕ → (ℕ → ℕ → Type 0) → Sorting → Type 0
IsSortingOf count Needs (Order order) =
    IsOrderable count Needs × IsLeastOrder count Needs order.items
IsSortingOf count Needs (Cycle cycle) =
    ¬ IsOrderable count Needs × IsLeastCycle Needs cycle.items
