use Rattle.std.proofs.Common.{◌∙◌, ◌++◌, [], ap, map, refl, take, ℕ, take_all}
use Rattle.module_table.specs.Prelude.{enumerate_from, RuleValue, ModuleValue, InfoValue, Provision, object_provisions, info_provisions, provision_of, Origin, origin_of, object_origins, info_origins, Object, Info}
use Rattle.module_table.proofs.Lists.{numbered_next, gathers_next, pushes_next, read_at}
use Rattle.module_table.proofs.modules.provided_modules.Goals as goal
use Rattle.ninja_text.proofs.ForCallers.{take_next}
use Rattle.module_table.proofs.Words.{Pair, own_module}

pub loop-index-preserved : goal.loop-index-preserved
loop-index-preserved c =
    let i = c.loop-index.index in
    let o = c.loop-object.object in
    let pairs = c.deref-pair-items.result.now in
    let pair = c.pair-item.result in
    let at = read_at pairs i c.loop-index-test.true c.pair-item.is in
    let pushed = c.in_ok-push.ensures.items in
    record {
      provisions = pushes_next provision_of (own_module o) (take i pairs) pair _ _ _ (take_next pairs i pair at)
          c.loop-index.invariant.provisions pushed refl;
      origins = pushes_next origin_of (λ (q : ℕ × (Pair)). let origin : Origin = (Object o, q.0) in origin) (enumerate_from 0 (take i pairs)) (i, pair) _ _ _
          (numbered_next pairs i pair at) c.loop-index.invariant.origins pushed refl;
    }

pub loop-object-preserved : goal.loop-object-preserved
loop-object-preserved c =
    let objects = c.args.objects.now in
    let i = c.loop-object.object in
    let rule = c.index-objects-object.result in
    let at = read_at objects i c.loop-object-test.true c.index-objects-object.is in
    let list = c.deref-pair-items.ensures.value ∙ ap (λ (r : RuleValue). r.provided) c.rule.view_is in
    let whole = take_all c.loop-index.index c.deref-pair-items.result.now c.loop-index-test.false ∙ list in
    record {
      provisions = gathers_next object_provisions objects i
          [] at c.loop-object.invariant.provisions
          (c.loop-index.invariant.provisions ∙
          ap (λ pairs. map provision_of c.loop-object.all.items ++ object_provisions (i, record { object = []; provided = pairs; required = [] })) whole);
      origins = gathers_next object_origins objects i
          [] at c.loop-object.invariant.origins
          (c.loop-index.invariant.origins ∙
          ap (λ pairs. map origin_of c.loop-object.all.items ++ object_origins (i, record { object = []; provided = pairs; required = [] })) whole);
    }

pub loop-index-2-preserved : goal.loop-index-2-preserved
loop-index-2-preserved c =
    let i = c.loop-index-2.index in
    let k = c.loop-info.info in
    let modules = c.deref-module-items.result.now in
    let entry = c.module-item.result in
    let at = read_at modules i c.loop-index-2-test.true c.module-item.is in
    let pushed = c.in_ok-push-2.ensures.items in
    let made = λ (m : ModuleValue). let p : Provision = record { maker = Info k; name = m.name; file = m.file; is_private = m.is_private } in p in
    record {
      provisions = pushes_next provision_of made (take i modules) entry _ _ _ (take_next modules i entry at)
          c.loop-index-2.invariant.provisions pushed (ap made c.module.view_is);
      origins = pushes_next origin_of (λ (q : ℕ × ModuleValue). let origin : Origin = (Info k, q.0) in origin) (enumerate_from 0 (take i modules))
          (i, entry) _ _ _ (numbered_next modules i entry at) c.loop-index-2.invariant.origins pushed refl;
    }

pub loop-info-preserved : goal.loop-info-preserved
loop-info-preserved c =
    let infos = c.args.infos.now in
    let i = c.loop-info.info in
    let value = c.index-infos-info.result in
    let at = read_at infos i c.loop-info-test.true c.index-infos-info.is in
    let list = c.deref-module-items.ensures.value ∙ ap (λ (r : InfoValue). r.modules) c.value.view_is in
    let whole = take_all c.loop-index-2.index c.deref-module-items.result.now c.loop-index-2-test.false ∙ list in
    record {
      provisions = gathers_next info_provisions infos i _ at c.loop-info.invariant.provisions
          (c.loop-index-2.invariant.provisions ∙
          ap (λ modules. map provision_of c.loop-info.all.items ++ info_provisions (i, record { target = []; modules = modules })) whole);
      origins = gathers_next info_origins infos i _ at c.loop-info.invariant.origins
          (c.loop-index-2.invariant.origins ∙
          ap (λ modules. map origin_of c.loop-info.all.items ++ info_origins (i, record { target = []; modules = modules })) whole);
    }
