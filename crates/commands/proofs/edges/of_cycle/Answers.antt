use Rattle.commands.specs.Prelude.{cycle_error}
use Rattle.commands.proofs.Outcomes.{its_line}
use Rattle.commands.proofs.edges.of_cycle.Goals as goal

pub returns : goal.returns
returns c =
    its_line 1 (cycle_error c.args.graph.now c.args.cycle.now) _ _ c.stopped.result (rw c.edges.ensures.edges at c.cycle_text.ensures) c.nowhere.ensures
    c.stopped.ensures
