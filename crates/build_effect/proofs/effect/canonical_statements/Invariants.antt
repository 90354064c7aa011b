use Rattle.std.proofs.Common.{take}
use Rattle.build_effect.specs.Prelude.{AreCanonical}
use Rattle.build_effect.proofs.effect.canonical_statements.Given as goal

abbrev pub invariant-loop-index : goal.invariant-loop-index
invariant-loop-index l = AreCanonical (take l.index l.statements) l.additions.items
