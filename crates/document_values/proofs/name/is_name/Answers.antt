use Rattle.std.proofs.Common.{arith}
use Rattle.std.proofs.lemmas.Grind.{common_steps}
use Rattle.document_values.proofs.Names.{name_is}
use Rattle.document_values.proofs.name.is_name.Goals as goal

pub returns-then-is_empty : goal.returns-then-is_empty
returns-then-is_empty c = grind (arith, common_steps, name_is c.args.text.now (omega arith))

pub returns-in-0-to-32 : goal.returns-in-0-to-32
returns-in-0-to-32 c = grind (arith, common_steps, name_is c.args.text.now (omega arith))

pub returns-in-0-to-32-2 : goal.returns-in-0-to-32-2
returns-in-0-to-32-2 c = grind (arith, common_steps, name_is c.args.text.now (omega arith))

pub returns : goal.returns
returns c = grind (arith, common_steps, name_is c.args.text.now (omega arith))
