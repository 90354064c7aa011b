use Rattle.in_memory.specs.Prelude.{Tells}
use Rattle.in_memory.proofs.Replies.{put_ok}
use Rattle.in_memory.proofs.StatementLists.{tells_fault, tells_stands}
use Rattle.in_memory.proofs.reply.statements_into.Goals as goal

pub returns-in-Ok : goal.returns-in-Ok
returns-in-Ok c =
    put_ok (Tells c.args.dyndep.now) c.of_statements.result
    (tells_stands c.args.dyndep.now c.in-Ok.dyndep c.of_statements.result c.in-Ok.ensures.statements.stands c.of_statements.ensures) c.put.ensures

pub returns-in-Err-Fault : goal.returns-in-Err-Fault
returns-in-Err-Fault c =
    put_ok (Tells c.args.dyndep.now) c.of_fault.result
    (tells_fault c.args.dyndep.now c.in-Err-Fault.fault c.of_fault.result
    (rw c.in-Err-Fault.field-0-is at c.in-Err-Fault.ensures.fault) c.of_fault.ensures) c.put-in-Err-Fault.ensures
