use Rattle.std.proofs.Common.{◌≡◌, ◌∙◌, ap, refl, subst, take, bytes_eq}
use Rattle.std.proofs.lemmas.Option.{slice_get_read}
use Rattle.std.proofs.lemmas.List.{take_all}
use Rattle.module_table.specs.Prelude.{get, HasBit, hasher_of, ModuleValue, by_name, key_of, rows_of, AreListed, AreShared}
use Rattle.module_table.proofs.PoolLemmas.{row_kept, module_listed, module_shared, shared_more, put_more, each_put}
use Rattle.ninja_text.proofs.ForCallers.{take_next}
use Rattle.module_table.proofs.pool.rows.list_modules.Goals as goal
use Rattle.module_table.proofs.pool.rows.list_modules.Goals.{then-is_shared+then-not-entry+in_ok-pair+in_ok-insert, else-is_shared}

pub loop-module-preserved : goal.loop-module-preserved
loop-module-preserved c =
    let modules = c.args.modules.now in
    let i = c.loop-module.module in
    let m = c.index-modules-module.result in
    let found = slice_get_read modules _ i m refl c.loop-module-test.true c.index-modules-module.is in
    let number = c.args.info in
    let old = c.loop-module.listed in
    let new = c.if-is_shared.listed in
    let Shares = HasBit c.add-in-loop-module.new.shared.items in
    let same : (new.names ≡ c.add.new.rows) × (new.files ≡ c.add-in-loop-module.new.rows) = elim c.if-is_shared.branch [
      | then-is_shared+then-not-entry+in_ok-pair+in_ok-insert w ↦ rw w.listed-is (refl, refl)
      | else-is_shared w ↦ rw w.listed-is (refl, refl)
    ] in
    let sharing : hasher_of new.sharing ≡ hasher_of old.sharing = elim c.if-is_shared.branch [
      | then-is_shared+then-not-entry+in_ok-pair+in_ok-insert w ↦ rw w.listed-is w.in_ok-insert.ensures.hasher
      | else-is_shared w ↦ rw w.listed-is refl
    ] in
    let name = c.in_ok-name.ensures ∙ ap (λ (m : ModuleValue). m.name) c.entry.view_is in
    let file = c.in_ok-file.ensures ∙ ap (λ (m : ModuleValue). m.file) c.entry.view_is in
    let named = rw name at c.in_ok-add.ensures.put in
    let filed = rw file at c.in_ok-is_shared.ensures.put in
    let put = each_put old new m number Shares
    (rw same.0 (put_more (rows_of old by_name) (get bytes_eq c.add.new.rows) m.name number (HasBit c.add.new.shared.items) Shares
    c.in_ok-is_shared.ensures.still named))
    (rw same.1 filed) in
    record {
      still = λ by key r h.
          let kept = c.loop-module.invariant.still by key r h in
          let again = row_kept (rows_of old by) (rows_of new by) (key_of by m) number Shares (put by) key kept.0 kept.1 in
          (again.0, again.1, λ k here. again.2 k (kept.2 k here));
      keyed = λ key was.
          let before = c.loop-module.invariant.keyed key was in
          record {
            names = ap (λ rows. hasher_of rows) same.0 ∙ c.in_ok-add.ensures.key ∙ before.names;
            files = ap (λ rows. hasher_of rows) same.1 ∙ c.in_ok-is_shared.ensures.key ∙ before.files;
            sharing = sharing ∙ before.sharing;
          };
      all = rw (take_next modules i m found) (λ by. module_listed (rows_of old by) (rows_of new by) (key_of by m) number Shares (put by) (key_of by)
          (take i modules) m refl (c.loop-module.invariant.all by));
      share = rw (take_next modules i m found) (λ by. module_shared (rows_of old by) (rows_of new by) (key_of by m) number Shares (put by) (key_of by)
          (take i modules) m (rows_of c.args.listed.now by) refl (c.loop-module.invariant.still by) (c.loop-module.invariant.all by)
          (shared_more (key_of by) number (take i modules) (rows_of c.args.listed.now by) (HasBit c.loop-module.shared.items) Shares
          (λ k h. c.in_ok-is_shared.ensures.still k (c.in_ok-add.ensures.still k h)) (c.loop-module.invariant.share by)));
    }

pub returns-clause-listed : goal.returns-clause-listed
returns-clause-listed c = λ by.
    subst (λ ms. AreListed (key_of by) c.args.info ms (rows_of c.loop-module.listed by))
    (take_all c.loop-module.module c.args.modules.now c.loop-module-test.false) (c.loop-module.invariant.all by)

pub returns-clause-shared : goal.returns-clause-shared
returns-clause-shared c = λ by.
    subst (λ ms. AreShared (key_of by) c.args.info ms (rows_of c.args.listed.now by) (HasBit c.loop-module.shared.items))
    (take_all c.loop-module.module c.args.modules.now c.loop-module-test.false) (c.loop-module.invariant.share by)

pub returns-clause-still : goal.returns-clause-still
returns-clause-still c = c.loop-module.invariant.still

pub returns-clause-key : goal.returns-clause-key
returns-clause-key c = c.loop-module.invariant.keyed
