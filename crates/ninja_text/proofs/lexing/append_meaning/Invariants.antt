use Rattle.std.proofs.Common.{◌≡◌, ◌≤◌, ◌-◌, ◌++◌, drop, take, length}
use Rattle.std.specs.List.{flat_map}
use Rattle.ninja_text.specs.Units.{units}
use Rattle.ninja_text.specs.Tokens.{unit_value, value_of}
use Rattle.ninja_text.proofs.lexing.append_meaning.Given as goal

-- what was appended, and what is left to append
abbrev pub invariant-loop-index : goal.invariant-loop-index
invariant-loop-index l = record {
  within : l.index ≤ length l.raw;
  longer : l.before ≤ length l.out.items;
  kept : take l.before l.out.items ≡ l.fn.out.items;
  meaning : l.out.items ++ flat_map unit_value (units (drop l.index l.raw)) ≡ l.fn.out.items ++ value_of l.raw;
}

abbrev pub decreases-loop-index : goal.decreases-loop-index
decreases-loop-index l = length l.raw - l.index
