use Rattle.ninja_text.proofs.ListLemmas.{tokens_are, tokens_one}
use Rattle.ninja_text.proofs.laws.a_text_has_one_list_of_tokens.Goals as goal

pub returns-clause-some : goal.returns-clause-some
returns-clause-some c = tokens_are

pub returns-clause-one : goal.returns-clause-one
returns-clause-one c = tokens_one
