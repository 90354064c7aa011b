use Rattle.std.proofs.Common.{arith}
use Rattle.std.proofs.lemmas.Grind.{common_steps}
use Rattle.ninja_text.proofs.lexing.check_unit.Goals as goal

pub returns-in-Byte-eq13 : goal.returns-in-Byte-eq13
returns-in-Byte-eq13 c = grind (arith, common_steps)
