use Rattle.build_effect.proofs.Effects as lemmas
use Rattle.build_effect.proofs.laws.statements_have_one_effect.Goals as goal

pub returns-clause-one : goal.returns-clause-one
returns-clause-one c = lemmas.one_effect

pub returns-clause-gives : goal.returns-clause-gives
returns-clause-gives c = lemmas.effect_gives
