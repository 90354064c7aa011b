use Rattle.std.proofs.Common.{◌≡◌, ◌≤◌, ◌-◌, drop, length}
use Rattle.ninja_text.specs.Units.{units}
use Rattle.ninja_text.specs.Lexical.{first_fault, lexical_fault}
use Rattle.ninja_text.proofs.lexing.check_units.Given as goal

-- the fault of what is left is that of the text
abbrev pub invariant-loop-index : goal.invariant-loop-index
invariant-loop-index l = record {
  within : l.index ≤ length l.text;
  fault : first_fault l.index (units (drop l.index l.text)) ≡ lexical_fault l.text;
}

abbrev pub decreases-loop-index : goal.decreases-loop-index
decreases-loop-index l = length l.text - l.index
