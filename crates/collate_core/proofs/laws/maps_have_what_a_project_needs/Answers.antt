use Rattle.collate_core.proofs.NeededLemmas as lemmas
use Rattle.collate_core.proofs.laws.maps_have_what_a_project_needs.Goals as goal

pub returns-clause-needs : goal.returns-clause-needs
returns-clause-needs c = λ style targets outs project apart n o t name file at.
    let laws = c.added_files_can_be_ordered.ensures in
    lemmas.needs_same laws.required laws.all_required laws.one_file laws.once c.bytes_determine_the_value.ensures.info style targets outs project apart n o t
    name file at

pub returns-clause-maps : goal.returns-clause-maps
returns-clause-maps c = λ written kept entries style targets outs project.
    let laws = c.added_files_can_be_ordered.ensures in
    lemmas.maps_read_back laws.required laws.all_required laws.one_file laws.once c.bytes_determine_the_value.ensures.info written kept
    entries style targets outs
    project
