use Rattle.std.proofs.Common.{◌≡◌, drop}
use Rattle.ninja_text.specs.declared.reduction.Begun.TheVariants.{Nothing}
use Rattle.ninja_text.proofs.PlainPaths.{names_from}
use Rattle.ninja_text.proofs.reduction.are_names.Given as goal

-- the rest decides whether all are names
abbrev pub invariant-loop-byte : goal.invariant-loop-byte
invariant-loop-byte l = names_from l.begun (drop l.byte-index l.list) ≡ names_from Nothing l.list
