use Rattle.std.proofs.Common.{rules, []}
use Rattle.commands.specs.Effect.{EffectRun}
use Rattle.in_memory.proofs.Replies.{replied}
use Rattle.in_memory.proofs.runs.effect_into.Goals as goal

pub returns-in-Ok : goal.returns-in-Ok
returns-in-Ok c =
    replied (EffectRun c.args.name.now c.args.edges.now c.args.dyndep.now []) c.effect_run.result (search rules)
    (rw c.in-Ok.ensures.cases.0 at c.effect_run.ensures) c.put_answer.ensures
