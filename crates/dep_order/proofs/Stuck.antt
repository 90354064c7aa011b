-- If each thing that is left needs another that is left: there is no numbering, and there is a
-- cycle.
use Rattle.std.proofs.Common.{◌≡◌, ℕ, ◌<◌, [], ◌∷◌, ◌++◌, length, slice_index, eqb, refl, inl, inr, ◌⊎◌, ⊎_elim, arith, zero, suc}
use Rattle.std.specs.List.{IsDistinct}
use Rattle.std.proofs.lemmas.Bool.{false_from_ne_true}
use Rattle.std.proofs.lemmas.Cmp.{nat_eq_equiv}
use Rattle.std.proofs.lemmas.List.Elements.{All-nil, All-push, All-contains}
use Rattle.std.proofs.lemmas.List.{length_push}
use Rattle.std.proofs.lemmas.Map.Keys.{IsDistinct-push}
use Rattle.std.proofs.lemmas.Map.Steps.{length-le_from_distinct_below}
use Rattle.dep_order.specs.Prelude.{All, IsNumbering, IsOrderable, IsChain, HasCycle}
use Rattle.dep_order.proofs.Orders.{has_or_not, has_from_any, chain_append, chain_split, split_at}
use Rattle.dep_order.proofs.Words.{Numbers, Relation}

-- each thing that is left needs one that is left
abbrev pub IsStuck : (ℕ → Type 0) → Relation → Type 0
IsStuck IsLeft Needs = (thing : ℕ) → IsLeft thing → (needed : ℕ) × Needs thing needed × IsLeft needed

no_number : {count thing : ℕ} {IsLeft : ℕ → Type 0} {Needs : Relation} {numbers : Numbers} → IsNumbering count Needs numbers → IsStuck IsLeft Needs →
    (k : ℕ) → IsLeft thing → slice_index numbers thing < k → ⊥
no_number n stuck zero left lt = absurd (omega arith)
no_number {thing} {IsLeft} n stuck (suc k) left lt =
    let next = stuck thing left in
    no_number n stuck k next.2 (omega (arith, n.below thing next.0 next.1))

-- if something is left, there is no numbering
pub not_orderable : {count thing : ℕ} {IsLeft : ℕ → Type 0} {Needs : Relation} → IsStuck IsLeft Needs → IsLeft thing → ¬ IsOrderable count Needs
not_orderable {thing} {IsLeft} stuck left o =
    no_number o.1 stuck (suc (slice_index o.0 thing)) left (omega arith)

-- a chain of different things that are left
record Walk (IsLeft : ℕ → Type 0) (Needs : Relation) (steps : ℕ) : Type 0 where
  things : Numbers
  end : ℕ
  as_many : length things ≡ steps
  chain : IsChain Needs things end
  differ : IsDistinct eqb things
  left : All IsLeft things
  end_left : IsLeft end

one_more : {IsLeft : ℕ → Type 0} {Needs : Relation} {steps : ℕ} → IsStuck IsLeft Needs → Walk IsLeft Needs steps →
    HasCycle Needs ⊎ Walk IsLeft Needs (suc steps)
one_more {IsLeft} {Needs} stuck w =
    ⊎_elim
    (λ has.
    let parts = split_at has in
    inl (w.end ∷ parts.1, (chain_split Needs parts.0 w.end parts.1 w.end (rw (← parts.2) w.chain)).1))
    (λ none.
    let next = stuck w.end w.end_left in
    inr (record {
      things = w.things ++ w.end ∷ [];
      end = next.0;
      as_many = omega (arith, length_push w.things w.end);
      chain = chain_append Needs w.things w.end [] next.0 w.chain next.1;
      differ = IsDistinct-push nat_eq_equiv w.things w.end w.differ (false_from_ne_true _ (λ e. none (has_from_any w.things e)));
      left = All-push IsLeft w.things w.end w.left w.end_left;
      end_left = next.2;
    }))
    (has_or_not w.things)

walk : {IsLeft : ℕ → Type 0} {Needs : Relation} {thing : ℕ} → IsStuck IsLeft Needs → IsLeft thing → (steps : ℕ) → HasCycle Needs ⊎ Walk IsLeft Needs steps
unfolding IsDistinct
walk {IsLeft} {thing} stuck left zero =
    inr (record { things = []; end = thing; as_many = refl; chain = tt; differ = tt; left = All-nil IsLeft; end_left = left })
walk {IsLeft} {Needs} {thing} stuck left (suc steps) =
    ⊎_elim (λ cycle. inl cycle) (λ w. one_more stuck w) (walk stuck left steps)

-- the things that are left are finitely many, so a long walk comes back
pub has_cycle : {Needs : Relation} {thing : ℕ} (count : ℕ) (IsLeft : ℕ → Type 0) → ((x : ℕ) → IsLeft x → x < count) → IsStuck IsLeft Needs → IsLeft thing →
    HasCycle Needs
has_cycle {Needs} {thing} count IsLeft within stuck left =
    ⊎_elim
    (λ cycle. cycle)
    (λ w. absurd (omega (
      arith,
      length-le_from_distinct_below w.things count w.differ (λ q e. within q (All-contains IsLeft w.things q w.left (has_from_any w.things e))),
    )))
    (walk stuck left (suc count))
