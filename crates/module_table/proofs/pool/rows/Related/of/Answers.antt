use Rattle.std.proofs.Common.{◌∙◌, ◌≤◌, ℕ, List, length, slice_get, refl, ap, sym, subst, arith}
use Rattle.std.proofs.lemmas.Option.{slice_get_read}
use Rattle.document_values.specs.Info.{ModuleValue}
use Rattle.module_table.specs.inner.Pools.{AreListed, AreShared, Has, HasBit, key_of, rows_of}
use Rattle.module_table.proofs.PoolLemmas.{IsSourced, below_next, below_all, below_map, modules_of, shared_more}
use Rattle.module_table.proofs.pool.rows.Related.of.Goals as goal
use Rattle.module_table.proofs.Words.{Pair}

pub loop-pair-preserved : goal.loop-pair-preserved
loop-pair-preserved c =
    let required = c.deref-pair-items.result.now in
    let i = c.loop-pair.pair-index in
    let old = c.loop-pair.sources.items in
    let new = c.put.new.set.items in
    let kept = c.in_ok-put.ensures.kept in
    let Found = IsSourced c.args.infos.now c.args.info.now in
    record {
      still = λ k h. kept k (c.loop-pair.invariant.still k h);
      all = below_next (Found new) required i c.pair-item.result (slice_get_read required _ i c.pair-item.result refl c.loop-pair-test.true c.pair-item.is)
          (below_map (Found old) (Found new) required i (λ pair f. (f.0, kept f.0 f.1, f.2)) c.loop-pair.invariant.all)
          (c.in-Some.at.info, c.in_ok-put.ensures.put c.in-Some.at.info c.word_of.ensures.has, c.in-Some.ensures);
    }

pub loop-module-preserved : goal.loop-module-preserved
loop-module-preserved c =
    let modules = c.args.info.now.modules in
    let m = c.module-item.result in
    let i = c.loop-module.module-index in
    let at = ap (λ xs. slice_get xs i) (sym (c.deref-module-items.ensures.value ∙ ap modules_of c.info.view_is))
    ∙ slice_get_read c.deref-module-items.result.now _ i m refl c.loop-module-test.true c.module-item.is in
    let Source = IsSourced c.args.infos.now c.args.info.now in
    let Found : List ℕ → ModuleValue → Type 0 = λ sources m. (pair : Pair) → Has m.required pair → Source sources pair in
    let new = c.loop-pair.sources.items in
    let pairs = c.deref-pair-items.ensures.value ∙ ap (λ (m : ModuleValue). m.required) c.module.view_is in
    let here = subst (λ (xs : List Pair). (pair : Pair) → Has xs pair → Source new pair) pairs
    (below_all (Source new) c.deref-pair-items.result.now c.loop-pair.pair-index c.loop-pair-test.false c.loop-pair.invariant.all) in
    below_next (Found new) modules i m at (below_map (Found c.loop-module.sources.items) (Found new) modules i (λ m found pair h. let f = found pair h in
    (f.0, c.loop-pair.invariant.still f.0 f.1, f.2)) c.loop-module.invariant) here

pub returns-clause-related : goal.returns-clause-related
returns-clause-related c =
    let infos = c.args.infos.now in
    let modules = c.args.info.now.modules in
    let own = c.deref.ensures.value ∙ ap modules_of c.info.view_is in
    record {
      are_listed = λ by.
          subst (λ ms. AreListed (key_of by) (length infos) ms (rows_of c.list_modules.new.listed by)) own (c.in_ok-list_modules.ensures.listed by);
      are_shared = λ by.
          shared_more (key_of by) (length infos) modules (rows_of c.args.listed.now by) (HasBit c.list_modules.new.shared.items) _
          (λ k h. c.in_ok-words_of-2.ensures k (subst (λ ws. HasBit ws k) (sym c.deref-3.ensures.value) h))
          (subst (λ ms. AreShared (key_of by) (length infos) ms (rows_of c.args.listed.now by) (HasBit c.list_modules.new.shared.items)) own
          (c.in_ok-list_modules.ensures.shared by));
      sources = λ j m pair at h.
          let list = c.deref-module-items.ensures.value ∙ ap modules_of c.info.view_is in
          let Found : List ℕ → ModuleValue → Type 0 = λ sources m. (pair : Pair) → Has m.required pair → IsSourced infos c.args.info.now sources pair in
          let all : length modules ≤ c.loop-module.module-index = omega (arith, c.loop-module-test.false, ap length list) in
          let f = below_all (Found c.loop-module.sources.items) modules c.loop-module.module-index all c.loop-module.invariant m (j, at) pair h in
          (f.0, c.in_ok-words_of.ensures f.0 (subst (λ ws. HasBit ws f.0) (sym c.deref-2.ensures.value) f.1), f.2);
    }

pub returns-clause-still : goal.returns-clause-still
returns-clause-still c = c.in_ok-list_modules.ensures.still

pub returns-clause-key : goal.returns-clause-key
returns-clause-key c = c.in_ok-list_modules.ensures.key

pub returns-in_default-clause-still : goal.returns-in_default-clause-still
returns-in_default-clause-still c = c.in_ok-list_modules.ensures.still

pub returns-in_default-clause-key : goal.returns-in_default-clause-key
returns-in_default-clause-key c = c.in_ok-list_modules.ensures.key
