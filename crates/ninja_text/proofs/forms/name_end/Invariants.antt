use Rattle.std.proofs.Common.{◌≡◌, ◌≤◌, ◌-◌, length, drop}
use Rattle.ninja_text.specs.Units.{units}
use Rattle.ninja_text.specs.Assignments.{after_run, is_name_unit}
use Rattle.ninja_text.proofs.forms.name_end.Given as goal

-- the run continues here
abbrev pub invariant-loop-index : goal.invariant-loop-index
invariant-loop-index l = record {
  within : l.index ≤ length l.text;
  past : l.from ≤ l.index;
  run : after_run is_name_unit l.index (units (drop l.index l.text)) ≡ after_run is_name_unit l.from (units (drop l.from l.text));
}

abbrev pub decreases-loop-index : goal.decreases-loop-index
decreases-loop-index l = length l.text - l.index
