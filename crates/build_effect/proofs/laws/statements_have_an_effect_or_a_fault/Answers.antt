use Rattle.build_effect.proofs.Effects as lemmas
use Rattle.build_effect.proofs.laws.statements_have_an_effect_or_a_fault.Goals as goal

pub returns-clause-suffice : goal.returns-clause-suffice
returns-clause-suffice c = lemmas.checks_suffice

pub returns-clause-exclude : goal.returns-clause-exclude
returns-clause-exclude c = lemmas.faults_exclude
