use Rattle.std.proofs.Common.{◌≡◌, ◌∙◌, ap, subst, sym, get_or, inl, inr, slice_get, Some}
use Rattle.std.proofs.lemmas.Option.{slice_get-get_or, get_or_from_slice_get}
use Rattle.module_table.specs.Prelude.{HasBit}
use Rattle.module_table.proofs.PoolLemmas.{below_next, below_map, below_all}
use Rattle.module_table.proofs.pool.links.put_words.Goals as goal

pub loop-info-preserved : goal.loop-info-preserved
loop-info-preserved c =
    let linked = c.args.linked.now in
    let indexes = c.args.indexes.now in
    let i = c.loop-info.info-index in
    let info = get_or linked i 0 in
    let old = c.loop-info.words.items in
    let new = c.put.new.set.items in
    let at = slice_get-get_or linked i 0 c.loop-info-test.true in
    let known : slice_get linked (get_or indexes info 0) ≡ Some info =
    ap (slice_get linked) (get_or_from_slice_get indexes info i 0 (c.requires i info at)) ∙ at in
    record {
      only = λ k has. elim (c.in_ok-put.ensures.alone k has) [
        | inl before ↦ c.loop-info.invariant.only k before
        | inr own ↦ subst (λ n. slice_get linked (get_or indexes n 0) ≡ Some n) (sym (c.word_of.ensures.alone k own)) known
      ];
      all = below_next (HasBit new) linked i info at (below_map (HasBit old) (HasBit new) linked i c.in_ok-put.ensures.kept c.loop-info.invariant.all)
          (c.in_ok-put.ensures.put info c.word_of.ensures.has);
    }

pub returns : goal.returns
returns c = record {
  only = c.loop-info.invariant.only;
  all = below_all (HasBit c.loop-info.words.items) c.args.linked.now c.loop-info.info-index c.loop-info-test.false c.loop-info.invariant.all;
}
