use Rattle.std.proofs.Common.{rules, ◌≡◌}
use Rattle.collate_core.specs.declared.fault.RefusedTarget.{RefusedTarget}
use Rattle.collate_core.proofs.Parts.{turns_weaker}
use Rattle.collate_core.proofs.fault.nothing_read.Goals as goal

pub returns : goal.returns
returns c = turns_weaker _ (λ refusal (refused : RefusedTarget). refused.refusal ≡ refusal) (λ refusal refused post. search rules) c.args.failure c.map.result
    c.map.ensures
