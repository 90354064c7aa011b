use Rattle.ninja_text.proofs.Spelling.{spells-same}
use Rattle.ninja_text.proofs.laws.a_word_has_one_meaning.Goals as goal

pub returns : goal.returns
returns c = spells-same
