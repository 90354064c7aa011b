-- What a target collates to, and how a part of a run tells its rejection.
use Rattle.std.specs.Prelude.{Option}
use Rattle.module_maps.specs.Maps.{Written}
use Rattle.collate_core.specs.Values.{TargetValue, CollatedValue}
use Rattle.collate_core.specs.Collation.{Collates}
use Rattle.collate_core.specs.Refusals.{IsRefusal}
use Rattle.commands.specs.Outcomes.{Part, Returns}
use Rattle.commands.specs.RefusalTexts.{refusal_error}

-- what the target collates to, with maps of this style
abbrev pub TargetOf : TargetValue → Option Written → Part CollatedValue
TargetOf target style =
    Returns (Collates target style) (IsRefusal target style) (refusal_error target)
