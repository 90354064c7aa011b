use Rattle.std.proofs.Common.{◌∙◌, ◌≡◌, ◌++◌, ◌∷◌, [], nat_eq, get_or, refl, ap, sym, slice_get, subst, None, arith}
use Rattle.module_table.specs.Prelude.{AllZip, InfoValue, Kept, module_at, IsPickedOf, IsCopied}
use Rattle.std.proofs.lemmas.Bool.{eqb-true}
use Rattle.std.proofs.lemmas.Option.{slice_get_read, slice_get-get_or, get_or_from_slice_get, slice_get_within}
use Rattle.module_table.proofs.PoolLemmas.{same_at, part_of, one_more_picked}
use Rattle.ninja_text.proofs.ForCallers.{same_some, take_next}
use Rattle.module_table.proofs.pool.links.part_of.Goals as goal
use Rattle.module_table.proofs.pool.links.part_of.Goals.{in-Some+then-eq+in-Some-Some-get+in-Some-get+in_ok-copy-2+in_ok-push-2, in_default}
use Rattle.module_table.proofs.Words.{target_of}
use Rattle.module_table.proofs.Lists.{zip_append, zip_there}

pub loop-number-preserved : goal.loop-number-preserved
loop-number-preserved c =
    let linked = c.args.links.now.linked.now in
    let i = c.loop-number.number-index in
    let n = get_or linked i 0 in
    let infos = c.args.infos.now in
    let h = c.in-Some-Some.ensures.lookup in
    rw (take_next linked i n (slice_get-get_or linked i 0 c.loop-number-test.true), c.in_ok-push.ensures.items)
    (zip_append (IsPickedOf (c.args.requirements ≡ Kept) infos) _ (n ∷ []) _ _ c.loop-number.invariant (
      (
        c.in-Some-Some.info,
        get_or_from_slice_get infos n _ None (slice_get_read infos _ n c.in-Some-Some.field-0.now refl h.3.0 h.1)
            ∙ c.in-Some-Some.field-0-is,
        (
          c.in_ok-copy.ensures ∙ ap target_of c.info.view_is,
          λ m has.
              let none = ap (λ ms. slice_get ms has.0) (sym c.new.ensures.items) ∙ has.1 in cc,
        ),
      ),
      tt,
    ))

pub index_mut-requires : goal.index_mut-requires
index_mut-requires c =
    let i = c.in-Some.index.now in
    let at = same_at nat_eq eqb-true c.args.links.now.linked.now i _ _ c.get-in-loop-at-2.ensures.lookup.3 (sym c.eq.ensures ∙ c.if-eq.true) in
    let here = zip_there (IsPickedOf (c.args.requirements ≡ Kept) c.args.infos.now) _ c.loop-at.part.items i _ c.loop-at.invariant at in
    omega (arith, (slice_get_within c.loop-at.part.items i here.0 here.1), c.loop-at.part.ok.0)

pub loop-at-preserved : goal.loop-at-preserved
loop-at-preserved c =
    let keeps = c.args.requirements ≡ Kept in
    let linked = c.args.links.now.linked.now in
    let infos = c.args.infos.now in
    let part = c.loop-at.part.items in
    let entry = get_or c.args.picked.now c.loop-at.at-index (module_at 0 0) in
    let n = entry.info in
    let k = entry.module in
    let Fits = AllZip (IsPickedOf keeps infos) linked in
    elim c.match-get-3.branch [
      | in-Some+then-eq+in-Some-Some-get+in-Some-get+in_ok-copy-2+in_ok-push-2 w ↦
          let i = w.in-Some.index.now in
          let info = w.in-Some-Some-get in
          let h = info.ensures.lookup in
          let known = get_or_from_slice_get infos n _ None (slice_get_read infos _ n info.field-0.now refl h.3.0 h.1) ∙ info.field-0-is in
          let source = w.in-Some-get in
          let l = source.ensures.lookup in
          let found = ap (λ (v : InfoValue). slice_get v.modules k) (sym w.info-in-loop-at.view_is) ∙ ap (λ ms. slice_get ms k) (sym w.deref.ensures.value)
          ∙ slice_get_read w.deref.result.now _ k source.module.now refl l.3.0 l.1 in
          let copy = w.in_ok-copy-2 in
          let copied : IsCopied keeps info.info copy.copy = (k, source.module.now, found, copy.ensures.alike, copy.ensures.kept) in
          let at = same_at nat_eq eqb-true linked i _ _ w.get-in-loop-at-2.ensures.lookup.3 (sym w.eq.ensures ∙ w.if-eq.true) in
          let here = zip_there (IsPickedOf keeps infos) linked part i n c.loop-at.invariant at in
          let element = slice_get_read part _ i w.index_mut.result.now refl (slice_get_within part i here.0 here.1) w.index_mut.ensures.value in
          let old = w.behind-part.view_is ∙ same_some _ _ (sym element ∙ here.1) in
          let pushed = w.in_ok-push-2.ensures.items ∙ ap (λ (v : InfoValue). v.modules ++ copy.copy ∷ []) old in
          let one = one_more_picked keeps infos n info.info here.0 _ copy.copy here.2 known copied (ap target_of old) pushed in
          subst Fits (sym (ap (λ v. v.items) w.part-is)) (here.3 _ one)
      | in_default w ↦ subst (λ v. Fits v.items) (sym w.part-is) c.loop-at.invariant
    ]

pub returns : goal.returns
returns c = part_of (c.args.requirements ≡ Kept) c.args.infos.now c.args.links.now.linked.now c.loop-at.part.items c.loop-at.invariant
