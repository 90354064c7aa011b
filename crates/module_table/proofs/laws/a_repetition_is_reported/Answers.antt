use Rattle.module_table.proofs.BeginningLemmas as lemmas
use Rattle.module_table.proofs.laws.a_repetition_is_reported.Goals as goal

pub returns-clause-reported : goal.returns-clause-reported
returns-clause-reported c = lemmas.beginning_is_reported

pub returns-clause-whole : goal.returns-clause-whole
returns-clause-whole c = lemmas.sound_is_whole
