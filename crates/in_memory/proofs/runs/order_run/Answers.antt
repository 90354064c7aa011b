use Rattle.in_memory.proofs.runs.order_run.Goals as goal

pub returns : goal.returns
returns c = (c.order.result, c.order.ensures, c.of.ensures)
