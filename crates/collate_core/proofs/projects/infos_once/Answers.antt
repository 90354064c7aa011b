use Rattle.std.proofs.Common.{◌≡◌, ◌∙◌, ℕ, ◌+◌, Bool, true, false, cond, List, [], ◌∷◌, ◌++◌, length, map, take, get_or, Option, Some, slice_get, is_eq, nat_cmp, Bor, refl, ap, subst, sym, arith, length-append}
use Rattle.std.specs.Cmp.{unsigned_ties, unsigned_Decides}
use Rattle.std.specs.BTreeMap.{get}
use Rattle.std.proofs.lemmas.List.{length-map, map_push, take_all}
use Rattle.std.proofs.lemmas.Option.{slice_get-get_or, slice_get_read}
use Rattle.ninja_text.proofs.ForCallers.{same_some, in_first, in_second, take_next}
use Rattle.collate_core.specs.Prelude.{option_map_or, CollatedValue, Listed, First, Again, Text, linked_infos}
use Rattle.collate_core.proofs.ReadingLemmas.{HaveTexts, again_more, first_more, have_all, lent}
use Rattle.collate_core.proofs.projects.infos_once.Goals as goal
use Rattle.collate_core.proofs.projects.infos_once.Goals.{in-None, in-Some+in_ok-insert-in-Some}

abbrev text_of : List CollatedValue → ℕ → Text
text_of outs k = option_map_or (λ c. c.info) (slice_get outs k) []

same_key : (t q : ℕ) → is_eq (nat_cmp t q) ≡ true → t ≡ q
same_key t q same = (unsigned_Decides t q).0 (unsigned_ties t q ∙ same)

-- each target that is known has its info file at its index
abbrev Known : List CollatedValue → (ℕ → Option ℕ) → List (Listed (Bor Text)) → Type 0
Known outs known infos = (q k : ℕ) → known q ≡ Some k → slice_get (map lent infos) k ≡ Some (First (text_of outs q))

module _ (outs : List CollatedValue) (old : ℕ → Option ℕ) (infos : List (Listed (Bor Text))) (t : ℕ) (known : Known outs old infos) where
  first_known : (info : Bor Text) (new : ℕ → Option ℕ) → info.now ≡ text_of outs t → ((q : ℕ) → new q ≡ cond (is_eq (nat_cmp t q)) (Some (length infos)) (old q)) →
      Known outs new (infos ++ First info ∷ [])
  first_known info new text updates q k is = ap (λ xs. slice_get xs k) (map_push lent infos (First info)) ∙ by (is_eq (nat_cmp t q)) refl (sym (updates q) ∙ is)
    where
      by : (b : Bool) → is_eq (nat_cmp t q) ≡ b → cond b (Some (length infos)) (old q) ≡ Some k →
          slice_get (map lent infos ++ First info.now ∷ []) k ≡ Some (First (text_of outs q))
      by true own there =
          let at : k ≡ length (map lent infos) + 0 = omega (arith, same_some _ _ there, length-map infos lent) in
          subst (λ j. slice_get (map lent infos ++ First info.now ∷ []) j ≡ Some (First info.now)) (sym at)
          (in_second (map lent infos) (First info.now ∷ []) 0 (First info.now) refl)
          ∙ ap (λ text. Some (First text)) (text ∙ ap (text_of outs) (same_key t q own))
      by false other there = in_first (map lent infos) (First info.now ∷ []) k (First (text_of outs q)) (known q k there)

  -- its index is put back
  again_known : (first n : ℕ) (mid new : ℕ → Option ℕ) → old t ≡ Some first → ((q : ℕ) → mid q ≡ cond (is_eq (nat_cmp t q)) (Some n) (old q)) →
      ((q : ℕ) → new q ≡ cond (is_eq (nat_cmp t q)) (Some first) (mid q)) → Known outs new (infos ++ Again first ∷ [])
  again_known first n mid new found put back q k is =
      ap (λ xs. slice_get xs k) (map_push lent infos (Again first))
      ∙ in_first (map lent infos) (Again first ∷ []) k (First (text_of outs q)) (known q k (sym (by (is_eq (nat_cmp t q)) refl (back q) (put q)) ∙ is))
    where
      by : (b : Bool) → is_eq (nat_cmp t q) ≡ b → new q ≡ cond b (Some first) (mid q) → mid q ≡ cond b (Some n) (old q) → new q ≡ old q
      by true own set _ = set ∙ sym found ∙ ap old (same_key t q own)
      by false other set before = set ∙ before

pub loop-index-preserved : goal.loop-index-preserved
loop-index-preserved c =
    let outs = c.args.outs.now in
    let linked = c.args.linked.now in
    let i = c.loop-index.index in
    let t = get_or linked i 0 in
    let so = c.loop-index.invariant in
    let infos = c.loop-index.infos.items in
    let texts = linked_infos outs (take i linked) in
    let info = c.match-branch-2.info in
    let next = take_next linked i t (slice_get-get_or linked i 0 c.loop-index-test.true) in
    let updates = c.in_ok-insert.ensures.updates.0 in
    let both : HaveTexts (infos ++ info ∷ []) (texts ++ text_of outs t ∷ []) × Known outs (get nat_cmp c.match-branch-2.known) (infos ++ info ∷ []) =
    elim c.match-branch-2.branch [
      | in-None w ↦
          let text : w.info.result.now ≡ text_of outs t = w.info.ensures ∙ ap (λ (o : Option CollatedValue). option_map_or (λ (x : CollatedValue). x.info) o [])
          (sym (slice_get_read outs _ t w.index-outs-target.result refl (c.requires i 0 c.loop-index-test.true) w.index-outs-target.is)) in
          rw (w.info-is, w.known-is) (
            first_more infos w.info.result so.infos text,
            first_known outs (get nat_cmp c.loop-index.known) infos t so.known w.info.result (get nat_cmp c.insert.new.self) text
                (λ q. updates q ∙ ap (λ n. cond (is_eq (nat_cmp t q)) (Some n) (get nat_cmp c.loop-index.known q)) (sym so.count)),
          )
      | in-Some+in_ok-insert-in-Some w ↦
          let found = sym c.in_ok-insert.ensures.old ∙ w.in-Some.is in
          rw (w.info-is, w.known-is) (
            again_more infos w.in-Some.first (text_of outs t) so.infos (so.known t w.in-Some.first found),
            again_known outs (get nat_cmp c.loop-index.known) infos t so.known w.in-Some.first i
                (get nat_cmp c.insert.new.self) (get nat_cmp w.insert-in-Some.new.self) found updates w.in_ok-insert-in-Some.ensures.updates.0,
          )
    ] in
    record {
      count = ap length c.in_ok-push.ensures.items ∙ length-append infos (info ∷ []) ∙ ap (λ n. n + 1) so.count;
      infos = rw c.in_ok-push.ensures.items (subst (HaveTexts (infos ++ info ∷ []))
          (sym (map_push (text_of outs) (take i linked) t) ∙ ap (linked_infos outs) (sym next)) both.0);
      known = rw c.in_ok-push.ensures.items both.1;
    }

pub returns : goal.returns
returns c =
    let all = take_all c.loop-index.index c.args.linked.now c.loop-index-test.false in
    have_all c.loop-index.infos.items c.loop-index.invariant.infos ∙ ap (linked_infos c.args.outs.now) all
