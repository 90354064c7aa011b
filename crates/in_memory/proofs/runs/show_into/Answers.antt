use Rattle.std.proofs.Common.{[]}
use Rattle.commands.specs.Show.{ShowRun}
use Rattle.in_memory.proofs.Replies.{replied}
use Rattle.in_memory.proofs.runs.show_into.Goals as goal

pub returns : goal.returns
returns c = replied (ShowRun c.args.dyndep.now []) c.show_run.result tt c.show_run.ensures c.put_answer.ensures
