use Rattle.std.proofs.Common.{◌≡◌, ◌++◌, take, codes}
use Rattle.commands.specs.Prelude.{flat_map, object_path}
use Rattle.commands.proofs.refusal.ring_text.Given as goal

-- the objects so far are after the first one
abbrev pub invariant-loop-next : goal.invariant-loop-next
invariant-loop-next l = l.text.items ≡ l.initial.text.items ++ flat_map (λ next. codes " -> " ++ object_path l.objects next) (take l.next-index l.others)
