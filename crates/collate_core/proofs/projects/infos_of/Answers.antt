use Rattle.ninja_text.proofs.ForCallers.{take_next}
use Rattle.std.proofs.Common.{ℕ, ◌<◌, ◌++◌, ◌∷◌, [], All, length, take, get_or, Option, refl, ap, subst, sym, ◌∙◌, slice_get}
use Rattle.std.proofs.lemmas.List.{map_push, take_all}
use Rattle.std.proofs.lemmas.List.Elements.{All-push}
use Rattle.std.proofs.lemmas.Option.{slice_get-get_or, slice_get_read}
use Rattle.collate_core.specs.Prelude.{option_map_or, CollatedValue, First, linked_infos}
use Rattle.collate_core.proofs.ReadingLemmas.{HaveTexts, first_more, have_all}
use Rattle.collate_core.proofs.projects.infos_of.Goals as goal

pub loop-target-preserved : goal.loop-target-preserved
loop-target-preserved c =
    let outs = c.args.outs.now in
    let linked = c.args.linked.now in
    let i = c.loop-target.target-index in
    let k = get_or linked i 0 in
    let found = c.in-Some.ensures.lookup in
    let next = take_next linked i k (slice_get-get_or linked i 0 c.loop-target-test.true) in
    let out = slice_get_read outs _ k c.in-Some.out.now refl found.3.0 found.1 in
    let value = c.info.ensures ∙
    ap (λ (z : Option CollatedValue). option_map_or (λ (x : CollatedValue). x.info) z []) (sym out) in
    record {
      earlier = rw next (All-push (λ k. k < length outs) (take i linked) k c.loop-target.invariant.earlier found.3.0);
      infos = rw c.in_ok-push.ensures.items (subst (HaveTexts (c.loop-target.infos.items ++ First c.info.result ∷ []))
          (sym (map_push (λ (x : ℕ). option_map_or (λ (y : CollatedValue). y.info) (slice_get outs x) []) (take i linked) k) ∙ ap (linked_infos outs) (sym next))
          (first_more c.loop-target.infos.items c.info.result c.loop-target.invariant.infos value));
    }

-- said here, so that a loop over something else is rejected soon
pub returns : goal.returns
returns c =
    let all = take_all c.loop-target.target-index c.args.linked.now c.loop-target-test.false in
    (subst (All (λ k. k < length c.args.outs.now)) all c.loop-target.invariant.earlier, have_all c.loop-target.infos.items c.loop-target.invariant.infos ∙ ap (linked_infos c.args.outs.now) all)
