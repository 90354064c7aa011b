use Rattle.module_table.proofs.PartLemmas as lemmas
use Rattle.module_table.proofs.laws.sound_part_is_enough.Goals as goal

pub returns-clause-sound : goal.returns-clause-sound
returns-clause-sound c = lemmas.whole

pub returns-clause-tasks : goal.returns-clause-tasks
returns-clause-tasks c = lemmas.same_tasks

pub returns-clause-needed : goal.returns-clause-needed
returns-clause-needed c = λ objects part infos is keeps sound. lemmas.same_needed objects part infos is sound keeps
