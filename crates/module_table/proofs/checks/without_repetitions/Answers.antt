use Rattle.std.proofs.Common.{◌≡◌, ◌≢◌, ◌<◌, ◌++◌, ◌∙◌, ℕ, suc, ap, arith, drop, get_or, get_or-set_other, get_or-set_same, inl, inr, List, [], ◌∷◌, length, refl, set, subst, sym, take, Vec, Global, eqb, Contains}
use Rattle.std.proofs.lemmas.List.{length-set}
use Rattle.std.proofs.lemmas.List.Filters.{dedup_is}
use Rattle.std.proofs.lemmas.List.Kept.{Contains-dedup_nat, Contains-from_dedup}
use Rattle.std.proofs.lemmas.List.Sorted.{Contains-permutation, IsPermutation-sym}
use Rattle.std.proofs.lemmas.Map.Keys.{IsStrictlyIncreasing-dedup}
use Rattle.std.proofs.lemmas.Option.{get_or_from_slice_get}
use Rattle.module_table.specs.Prelude.{AllZip, HasEachOnce, rows}
use Rattle.module_table.proofs.Lists.{read_at}
use Rattle.ninja_text.proofs.ForCallers.{three_ways}
use Rattle.module_table.proofs.checks.without_repetitions.Goals as goal

each_row : (old new : List (Vec ℕ Global)) → length old ≡ length new →
    ((k : ℕ) (d : Vec ℕ Global) → k < length old → HasEachOnce (get_or old k d).items (get_or new k d).items) → AllZip HasEachOnce (rows old) (rows new)
each_row [] [] many each = tt
each_row [] (new ∷ more) many each = absurd (omega (arith, many))
each_row (old ∷ rest) [] many each = absurd (omega (arith, many))
each_row (old ∷ rest) (new ∷ more) many each = (
  each 0 old (omega arith),
  each_row rest more (omega (arith, many)) (λ k d lt. each (suc k) d (omega (arith, lt))),
)

-- a list is written over all of another
written : {X : Type 0} (xs ys : List X) → length xs ≡ length ys → take (length ys) (xs ++ drop (length xs) ys) ≡ xs
written [] [] many = refl
written [] (y ∷ ys) many = absurd (omega (arith, many))
written (x ∷ xs) [] many = absurd (omega (arith, many))
written (x ∷ xs) (y ∷ ys) many = ap (λ zs. x ∷ zs) (written xs ys (omega (arith, many)))

pub loop-row-preserved : goal.loop-row-preserved
loop-row-preserved c =
    let i = c.loop-row.row-index in
    let old = c.deref_mut-row-items.result.now in
    let now = c.loop-row.row-items in
    let sorted = c.sort_unstable.new.self.items in
    let row = c.dedup.new.self in
    let same = dedup_is eqb sorted _ c.dedup.ensures.filtered in
    let h = c.loop-row.invariant in
    let within : i < length now = omega (arith, c.loop-row-test.true, h.as_many) in
    let once : HasEachOnce (get_or now i c.row-item.result).items row.items = record {
      kept = λ n h. rw same (Contains-dedup_nat sorted n (Contains-permutation _ sorted n c.sort_unstable.ensures.permutation h));
      only = λ n h. Contains-permutation sorted _ n (IsPermutation-sym _ sorted c.sort_unstable.ensures.permutation)
          (Contains-from_dedup eqb sorted n (subst (λ (xs : List ℕ). Contains xs n) same h));
      rising = rw same (IsStrictlyIncreasing-dedup sorted c.sort_unstable.ensures.sorted);
    } in
    record {
      as_many = length-set now i row ∙ h.as_many;
      done = λ k d lt. elim (three_ways k i) [
        | inl less ↦ let other : k ≢ i = omega (arith, less) in
            subst (λ (v : Vec ℕ Global). HasEachOnce (get_or old k d).items v.items) (sym (get_or-set_other now i k row d other)) (h.done k d less)
        | inr rest ↦ elim rest [
          | inl same ↦
              let read : get_or now i c.row-item.result ≡ get_or old i d =
              sym c.row-item.is ∙ sym (get_or_from_slice_get now i c.row-item.result d (read_at now i within c.row-item.is)) ∙ h.rest i d (omega arith) in
              let here = subst (λ (v : Vec ℕ Global). HasEachOnce v.items row.items) read once in
              subst (λ n. HasEachOnce (get_or old n d).items (get_or (set now i row) n d).items) (sym same)
              (subst (λ (v : Vec ℕ Global). HasEachOnce (get_or old i d).items v.items) (sym (get_or-set_same now i row d within)) here)
          | inr more ↦ absurd (omega (arith, lt, more))
        ]
      ];
      rest = λ k d past. let other : k ≢ i = omega (arith, past) in get_or-set_other now i k row d other ∙ h.rest k d (omega (arith, past));
    }

pub returns : goal.returns
returns c =
    let old = c.args.needs.items in
    let now = c.loop-row.row-items in
    let same = c.deref_mut-row-items.ensures.value in
    let many : length now ≡ length old = c.loop-row.invariant.as_many ∙ ap length same in
    let all : c.args.needs.len ≡ length old = omega (arith, c.args.needs.ok.0) in
    subst (λ n. AllZip HasEachOnce (rows old) (rows (take n (now ++ drop (length now) old)))) (sym all)
    (subst (λ (xs : List (Vec ℕ Global)). AllZip HasEachOnce (rows old) (rows xs)) (sym (written now old many))
    (each_row old now (sym many) (λ k d lt. subst (λ (xs : List (Vec ℕ Global)). HasEachOnce (get_or xs k d).items (get_or now k d).items) same
    (c.loop-row.invariant.done k d (omega (arith, lt, ap length same, c.loop-row-test.false))))))
