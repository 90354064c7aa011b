use Rattle.std.proofs.Common.{refl}
use Rattle.module_table.proofs.Bits.{alone_in_word}
use Rattle.module_table.proofs.pool.sets.word_of.Goals as goal

pub returns-clause-alone : goal.returns-clause-alone
returns-clause-alone c = alone_in_word c.args.info _ refl refl
