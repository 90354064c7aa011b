use Rattle.commands.proofs.run.program_run.Goals as goal

pub returns : goal.returns
returns g c = record {
  outcome = c.arguments_run-outcome.result;
  runs = c.arguments_run-outcome.ensures;
  answer = c.of-answer.result;
  answered = c.of-answer.ensures;
  printed = c.print.ensures;
}
