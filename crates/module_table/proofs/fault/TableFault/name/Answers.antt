use Rattle.std.proofs.Common.{rules}
use Rattle.module_table.proofs.fault.TableFault.name.Goals as goal

pub returns-in-BmiTwice : goal.returns-in-BmiTwice
returns-in-BmiTwice c = search rules
