-- The modules that are picked for a target: a sparse set, which lists the index of each.
use Rattle.std.proofs.Common.{◌≡◌, ◌≤◌, ℕ, ◌++◌, ◌∷◌, [], List, Some, Vec, length, slice_get, slice_set, take, inl, inr, sym, subst, ap, ap₂, ◌∙◌}
use Rattle.std.proofs.lemmas.Bool.{cases_eq}
use Rattle.std.proofs.lemmas.List.{take_all}
use Rattle.std.proofs.lemmas.Option.{slice_get_within}
use Rattle.ninja_text.proofs.ForCallers.{from_push, in_first, same_some}
use Rattle.module_table.specs.Prelude.{Global, IsListedAt, ModuleAt, module_at}
use Rattle.module_table.proofs.Lists.{set_there, set_elsewhere}
use Rattle.module_table.proofs.Words.{At}

-- each of these modules is listed with its index
abbrev pub AreIndexed : List ModuleAt → List (Vec ℕ Global) → Type 0
AreIndexed modules indexes = (index : ℕ) (at : ModuleAt) → At modules index at → IsListedAt indexes at index

-- a list that is filled up has what it had
pub filled_up : (xs ys more : List ℕ) (n : ℕ) → length xs ≤ n → ys ≡ take n xs ++ more → (j x : ℕ) → At xs j x → At ys j x
filled_up xs ys more n long is j x at =
    ap (λ zs. slice_get zs j) is ∙ in_first (take n xs) more j x (ap (λ zs. slice_get zs j) (take_all n xs long) ∙ at)

module _ (modules : List ModuleAt) (indexes : List (Vec ℕ Global)) (info : ℕ) (row longer : Vec ℕ Global) (here : At indexes info row)
    (still : (j index : ℕ) → At row.items j index → At longer.items j index) (indexed : AreIndexed modules indexes) where
  -- the list of an info file may grow
  pub still_indexed : AreIndexed modules (slice_set indexes info longer)
  still_indexed index at is =
      let known = indexed index at is in
      elim (cases_eq at.info info) [
        | inl same ↦ (
          longer,
          subst (λ i. At (slice_set indexes info longer) i longer) (sym same) (set_there indexes info longer (slice_get_within indexes info row here)),
          still at.module index
              (subst (λ (r : Vec ℕ Global). At r.items at.module index) (same_some _ _ (sym known.1 ∙ ap (slice_get indexes) same ∙ here)) known.2),
        )
        | inr other ↦ (known.0, set_elsewhere indexes info at.info longer known.0 known.1 other, known.2)
      ]

  -- one more module, which is not where its list says
  pub more_indexed : (at : ModuleAt) (index : ℕ) (last : Vec ℕ Global) → at.info ≡ info → At longer.items at.module index → (At modules index at → ⊥)
      → last.items ≡ slice_set longer.items at.module (length modules) → AreIndexed (modules ++ at ∷ []) (slice_set indexes info last)
  more_indexed at index last own listed absent is i x has =
      let there = set_there indexes info last (slice_get_within indexes info row here) in
      elim (from_push modules at i x has) [
        | inl old ↦
            let known = indexed i x old in
            elim (cases_eq x.info info) [
              | inl same ↦
                  let now = still x.module i
                  (subst (λ (r : Vec ℕ Global). At r.items x.module i) (same_some _ _ (sym known.1 ∙ ap (slice_get indexes) same ∙ here)) known.2) in
                  elim (cases_eq x.module at.module) [
                    | inl alike ↦
                        let one : i ≡ index = same_some _ _ (sym now ∙ ap (slice_get longer.items) alike ∙ listed) in
                        absurd (absent (ap (slice_get modules) (sym one) ∙ old ∙ ap Some (ap₂ (λ a b. module_at a b) (same ∙ sym own) alike)))
                    | inr other ↦ (
                      last,
                      subst (λ k. At (slice_set indexes info last) k last) (sym same) there,
                      subst (λ ns. At ns x.module i) (sym is) (set_elsewhere longer.items at.module x.module (length modules) i now other),
                    )
                  ]
              | inr other ↦ (known.0, set_elsewhere indexes info x.info last known.0 known.1 other, known.2)
            ]
        | inr new ↦
            subst (λ (y : ModuleAt). IsListedAt (slice_set indexes info last) y i) new.1 (
              last,
              subst (λ k. At (slice_set indexes info last) k last) (sym own) there,
              subst (λ ns. At ns at.module i) (sym is)
                  (subst (λ n. At (slice_set longer.items at.module (length modules)) at.module n) (sym new.0)
                  (set_there longer.items at.module (length modules) (slice_get_within longer.items at.module index listed))),
            )
      ]
