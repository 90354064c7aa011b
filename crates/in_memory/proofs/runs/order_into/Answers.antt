use Rattle.std.proofs.Common.{[]}
use Rattle.commands.specs.Order.{OrderRun}
use Rattle.in_memory.proofs.Replies.{replied}
use Rattle.in_memory.proofs.runs.order_into.Goals as goal

pub returns : goal.returns
returns c = replied (OrderRun c.args.edges.now []) c.order_run.result tt c.order_run.ensures c.put_answer.ensures
