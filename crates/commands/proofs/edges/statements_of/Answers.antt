use Rattle.dyndep_file.specs.FaultTexts.{read_fault_text}
use Rattle.commands.specs.Prelude.{read_location}
use Rattle.commands.proofs.Outcomes.{held}
use Rattle.commands.proofs.edges.statements_of.Goals as goal

pub returns : goal.returns
returns c = held read_fault_text read_location c.args.dyndep c.or_stop.result c.or_stop.ensures
