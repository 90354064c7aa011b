use Rattle.ninja_text.proofs.CutLemmas.{divides_one, divides_some}
use Rattle.ninja_text.proofs.laws.a_text_is_divided_in_one_way.Goals as goal

pub returns-clause-some : goal.returns-clause-some
returns-clause-some c = divides_some

pub returns-clause-one : goal.returns-clause-one
returns-clause-one c = λ bytes lines others rest left p q. divides_one bytes lines others rest left p q
