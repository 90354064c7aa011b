use Rattle.module_table.proofs.OneReported as excluded
use Rattle.module_table.proofs.Faultless as faultless
use Rattle.module_table.proofs.laws.sound_is_faultless.Goals as goal

pub returns-clause-no_fault : goal.returns-clause-no_fault
returns-clause-no_fault c = excluded.sound_has_no_fault

pub returns-clause-sound : goal.returns-clause-sound
returns-clause-sound c = faultless.faultless_is_sound
