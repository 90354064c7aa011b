use Rattle.ninja_text.proofs.ForCallers.{take_next}
use Rattle.std.proofs.Common.{take, refl, ap, sym, ◌∙◌, Ok}
use Rattle.std.proofs.lemmas.List.{map-append, take_all}
use Rattle.std.proofs.lemmas.List.Elements.{All-push}
use Rattle.std.proofs.lemmas.Option.{slice_get_read}
use Rattle.collate_core.specs.Prelude.{PathText, Name, module_files, lent_files, IsSpelled}
use Rattle.collate_core.proofs.Outcomes.{map_push}
use Rattle.collate_core.proofs.texts.lend_files.Goals as goal

pub loop-module-preserved : goal.loop-module-preserved
loop-module-preserved c =
    let modules = c.args.modules.now in
    let i = c.loop-module.module-index in
    let pair = c.module-item.result in
    let next =
    take_next modules i pair (slice_get_read modules _ i pair refl c.loop-module-test.true c.module-item.is) in
    let file = c.bytes.ensures in
    record {
      files = rw (c.in_ok-push.ensures.items, next, map-append)
          (map_push (λ (pair : Name × PathText). pair.1) (take i modules) c.loop-module.invariant.files file.text);
      spelled = rw (c.in_ok-push.ensures.items, map-append)
          (All-push IsSpelled (lent_files c.loop-module.files.items) c.bytes.result.now c.loop-module.invariant.spelled
          (record { canonical = file.canonical ∙ ap Ok (sym file.text); writable = file.writable }));
    }

pub returns-clause-files : goal.returns-clause-files
returns-clause-files c = c.loop-module.invariant.files ∙ ap module_files (take_all c.loop-module.module-index c.args.modules.now c.loop-module-test.false)
