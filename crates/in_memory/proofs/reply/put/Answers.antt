use Rattle.std.proofs.Common.{rules}
use Rattle.in_memory.specs.Replies.{replies}
use Rattle.in_memory.proofs.reply.put.Goals as goal

pub returns : goal.returns
returns c = replies tt c.in-Ok.reply c.in-Ok.is (search rules)
