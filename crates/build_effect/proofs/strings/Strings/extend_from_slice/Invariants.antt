use Rattle.std.proofs.Common.{◌≡◌, ◌++◌, take}
use Rattle.build_effect.specs.Prelude.{rows}
use Rattle.build_effect.proofs.strings.Strings.extend_from_slice.Given as goal

abbrev pub invariant-loop-text : goal.invariant-loop-text
invariant-loop-text l = l.self ≡ l.initial.self ++ rows (take l.text-index l.texts)
