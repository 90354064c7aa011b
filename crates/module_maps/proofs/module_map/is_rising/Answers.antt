use Rattle.std.proofs.Common.{◌↔◌, ◌≡◌, ◌+◌, List, [], ◌∷◌, length, get_or, map, Bool, true, false, IsTrue, arith, rules, tests, refl, ap, sym, ◌∙◌}
use Rattle.module_maps.specs.Prelude.{nat_cmp, is_lt, slice_cmp, Precedes, IsRising, lent_pairs}
use Rattle.std.specs.List.{IsAllAdjacentAnswer}
use Rattle.std.proofs.lemmas.List.{get_or-map, length-map}
use Rattle.std.proofs.lemmas.List.Sorted.{answers_always}
use Rattle.module_maps.proofs.LinesOnly.{precedes, climbs}
use Rattle.module_maps.proofs.Pushes.{Lent, seen}
use Rattle.module_maps.proofs.module_map.is_rising.Goals as goal

abbrev is_before : Lent → Lent → Bool
is_before a b = is_lt (slice_cmp nat_cmp a.0.now b.0.now)

rising_is : (xs : List Lent) (r : Bool) → IsAllAdjacentAnswer (λ a b answer. answer ≡ is_before a b) xs r → IsTrue r ↔ IsRising (lent_pairs xs)
rising_is [] true h = ((λ _ i j d less within. absurd (omega (arith, less, within))), (λ _. refl))
rising_is [] false h = absurd (omega (arith, h.1))
rising_is (x ∷ xs) true h = (
  (λ _ i j d less within.
      climbs (λ k. (get_or (map seen (x ∷ xs)) k d).0) (length (x ∷ xs))
      (λ k lt.
      rw (get_or-map seen (x ∷ xs) k x d (omega (arith, lt)), get_or-map seen (x ∷ xs) (k + 1) x d lt)
      (precedes (get_or (x ∷ xs) k x).0.now (get_or (x ∷ xs) (k + 1) x).0.now (sym (h k x lt))))
      i j less (omega (arith, within, length-map (x ∷ xs) seen))),
  (λ _. refl),
)
rising_is (x ∷ xs) false h = (
  (λ yes. absurd (let no = yes in cc)),
  (λ all.
      let next : Precedes (get_or (map seen (x ∷ xs)) h.0 (seen x)).0 (get_or (map seen (x ∷ xs)) (h.0 + 1) (seen x)).0 =
      all h.0 (h.0 + 1) (seen x) (omega arith) (omega (arith, h.1, length-map (x ∷ xs) seen)) in
      let before = rw (get_or-map seen (x ∷ xs) h.0 x (seen x) (omega (arith, h.1)), get_or-map seen (x ∷ xs) (h.0 + 1) x (seen x) h.1) at next in
      absurd (let no = h.2 x ∙ ap is_lt before in cc)),
)

pub returns : goal.returns
returns c =
    rising_is c.args.pairs.now c.is_sorted_by.result (c.is_sorted_by.ensures.cases is_before (answers_always _ _ _ (λ f a r g called. search (rules, tests))))
