use Rattle.std.proofs.Common.{◌∙◌, subst}
use Rattle.build_effect.specs.Prelude.{Gives, path_of}
use Rattle.build_effect.proofs.StringTexts.{whole_range}
use Rattle.build_effect.proofs.listing.dyndep_path.Goals as goal

pub returns-2 : goal.returns-2
returns-2 c = subst (λ text. Gives (λ path. path) c.within.result (path_of text)) (whole_range _ c.len-end.ensures ∙ c.in_ok-shared.ensures)
    c.within.ensures.meaning
