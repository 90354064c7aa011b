use Rattle.std.proofs.Common.{◌≡◌, map, take}
use Rattle.module_table.specs.Prelude.{AllDiffer}
use Rattle.module_table.proofs.checks.put_targets.Given as goal

abbrev pub invariant-loop-info : goal.invariant-loop-info
invariant-loop-info l =
    record {
      same : map (λ target. target.now) l.targets.keys ≡ take l.info-index (map (λ info. info.target) l.infos);
      differ : AllDiffer (take l.info-index (map (λ info. info.target) l.infos));
    }
