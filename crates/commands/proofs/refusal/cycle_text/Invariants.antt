use Rattle.std.proofs.Common.{◌≡◌, ◌++◌, take, codes}
use Rattle.commands.specs.Prelude.{flat_map, first_output}
use Rattle.commands.proofs.refusal.cycle_text.Given as goal

-- the edges so far are after the first one
abbrev pub invariant-loop-next : goal.invariant-loop-next
invariant-loop-next l = l.text.items ≡ l.initial.text.items ++ flat_map (λ next. codes " -> " ++ first_output l.edges next) (take l.next-index l.others)
