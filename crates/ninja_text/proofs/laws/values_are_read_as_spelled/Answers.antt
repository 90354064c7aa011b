use Rattle.ninja_text.proofs.ReadAsSpelled.{words_read, values_read}
use Rattle.ninja_text.proofs.Spelling.{value_same}
use Rattle.ninja_text.proofs.laws.values_are_read_as_spelled.Goals as goal

pub returns-clause-words : goal.returns-clause-words
returns-clause-words c = words_read

pub returns-clause-values : goal.returns-clause-values
returns-clause-values c = values_read

pub returns-clause-one_value : goal.returns-clause-one_value
returns-clause-one_value c = value_same
