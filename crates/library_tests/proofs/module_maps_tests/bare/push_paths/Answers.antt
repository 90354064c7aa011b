use Rattle.std.proofs.Common.{◌++◌, ap, sym, ◌∙◌}
use Rattle.std.specs.List.{flat_map}
use Rattle.std.proofs.lemmas.List.{take_all}
use Rattle.std.proofs.lemmas.List.Folds.{flat_map-map}
use Rattle.module_maps.specs.MapLines.{ended_line}
use Rattle.library_tests.proofs.module_maps_tests.bare.push_paths.Goals as goal

pub returns : goal.returns
returns c =
    c.loop-pair.invariant ∙
    ap (λ ps. c.args.text.now.items ++ flat_map (λ pair. ended_line pair.1.now) ps)
    (take_all c.loop-pair.pair-index c.args.pairs.now c.loop-pair-test.false)
    ∙ ap (λ t. c.args.text.now.items ++ t) (sym (flat_map-map (λ pair. ended_line pair.1) (λ pair. (pair.0.now, pair.1.now)) c.args.pairs.now))
