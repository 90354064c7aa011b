use Rattle.in_memory.specs.Replies.{HasAnswer}
use Rattle.in_memory.proofs.Replies.{has_answer, put_ok}
use Rattle.in_memory.proofs.runs.put_answer.Goals as goal

pub returns-in-Ok : goal.returns-in-Ok
returns-in-Ok c =
    put_ok (HasAnswer c.args.answer) c.of.result (has_answer c.args.answer c.in-Ok.answer c.of.result c.in-Ok.is c.of.ensures) c.put.ensures
