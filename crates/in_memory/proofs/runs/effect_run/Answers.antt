use Rattle.in_memory.proofs.runs.effect_run.Goals as goal

pub returns : goal.returns
returns c = (c.effect.result, c.effect.ensures, c.of.ensures)
