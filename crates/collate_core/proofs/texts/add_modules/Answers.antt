use Rattle.ninja_text.proofs.ForCallers.{take_next}
use Rattle.std.proofs.Common.{rules, ◌++◌, take, ap, refl, append_assoc}
use Rattle.std.proofs.lemmas.Option.{slice_get_read}
use Rattle.collate_core.specs.Prelude.{module_of}
use Rattle.collate_core.proofs.Outcomes.{map_push}
use Rattle.collate_core.proofs.texts.add_modules.Goals as goal

-- said here, so that a body which does something else is rejected soon
pub loop-pair-preserved : goal.loop-pair-preserved
loop-pair-preserved c =
    let pairs = c.deref-pair-items.result.now in
    let i = c.loop-pair.pair-index in
    let pair = c.pair-item.result in
    let next =
    take_next pairs i pair (slice_get_read pairs _ i pair refl c.loop-pair-test.true c.pair-item.is) in
    rw (c.in_ok-push.ensures.items, c.loop-pair.invariant, append_assoc, next)
    (ap (λ ms. c.args.modules.now.items ++ ms)
    (map_push (module_of c.args.private_names.now.keys c.args.required.now) (take i pairs) refl (search rules)))
