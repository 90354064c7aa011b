use Rattle.ninja_text.proofs.ReducedList.{reaches, reaches-only}
use Rattle.ninja_text.proofs.laws.a_list_has_one_canonical_form.Goals as goal

pub returns-clause-reached : goal.returns-clause-reached
returns-clause-reached c = reaches

pub returns-clause-only : goal.returns-clause-only
returns-clause-only c = reaches-only
