use Rattle.module_table.proofs.Places as lemmas
use Rattle.module_table.proofs.Pairs as pairs
use Rattle.module_table.proofs.laws.added_files_can_be_ordered.Goals as goal

pub returns-clause-orderable : goal.returns-clause-orderable
returns-clause-orderable c = lemmas.orderable

pub returns-clause-once : goal.returns-clause-once
returns-clause-once c = lemmas.files_once

pub returns-clause-apart : goal.returns-clause-apart
returns-clause-apart c = lemmas.apart

pub returns-clause-required : goal.returns-clause-required
returns-clause-required c = lemmas.required_files

pub returns-clause-all_required : goal.returns-clause-all_required
returns-clause-all_required c = pairs.all_required

pub returns-clause-one_file : goal.returns-clause-one_file
returns-clause-one_file c = lemmas.one_file
