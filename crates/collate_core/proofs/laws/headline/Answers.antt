use Rattle.collate_core.proofs.Effects.{headline}
use Rattle.collate_core.proofs.laws.headline.Goals as goal

pub returns : goal.returns
returns c = headline c.statements_have_one_effect.ensures.one c.added_files_can_be_ordered.ensures.orderable c.added_files_can_be_ordered.ensures.once
    c.added_files_can_be_ordered.ensures.apart c.added_files_can_be_ordered.ensures.required
